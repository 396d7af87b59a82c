-- A segment's line, and any line, path by path; as in Lines: `ns` are the lock names known before it, and `after` those known after it.
use Rattle.std.specs.Prelude.{ℕ, ◌≡◌, Bool, not, List, Option, Some, None, Ok, Err}
use Rattle.std.proofs.Math.Path.{sym, ap}
use Rattle.std.proofs.Common.{◌∙◌}
use Rattle.std.proofs.Math.Bool.{true, false}
use Rattle.std.proofs.lemmas.Bool.{not-true, not-false}
use Rattle.draft.specs.Words.{first, others, none, same}
use Rattle.draft.specs.Numbers.{number_of}
use Rattle.draft.specs.Locks.{too_many}
use Rattle.draft.specs.Forms.{Outcome, most_four, frame_word, job_word, segment_word, holds_word, with_names, frame_says, job_says, held_says, holds_says, segment_says, line_says}
use Rattle.draft.specs.Known.{LocksAre}
use Rattle.draft.specs.Laws.Lines.{number_told, same_told}
use Rattle.draft.specs.declared.cause.Cause.TheVariants.{UnknownLine, BadNumber, BadWord, TooManyLocks}
use Rattle.draft.specs.declared.forms.Line.TheVariants.{Nothing, Segment}

module _ (ns : List (List ℕ)) where
  -- ---- from the first lock's name on

  pub held_nameless : (a b : ℕ) (ws : List (List ℕ)) (t : Bool) → t ≡ none ws → t ≡ true → with_names (Err BadWord) ns ≡ held_says ns a b ws
  unfolding held_says
  held_nameless a b ws t p q = rw (sym p ∙ q)

  module _ (a b : ℕ) (ws after : List (List ℕ)) (t : Bool) (r : Option ℕ) (p : t ≡ none ws) (q : t ≡ false) (locks : LocksAre ns after ws r) where
    pub held_full : r ≡ None → with_names (Err TooManyLocks) ns ≡ held_says ns a b ws
    unfolding held_says
    held_full e =
        let many : too_many ns ws ≡ true = rw e at locks in
        rw (sym p ∙ q, many)

    pub held_whole : (held : ℕ) → r ≡ Some held → with_names (Ok (Segment a b held)) after ≡ held_says ns a b ws
    unfolding held_says
    held_whole held e =
        let few : LocksAre ns after ws (Some held) = rw e at locks in
        rw (sym p ∙ q, few.0, few.1, few.2)

  -- ---- from after the longest time on

  module _ (a b : ℕ) (ws : List (List ℕ)) (t : Bool) (p : t ≡ none ws) where
    pub holds_none : t ≡ true → with_names (Ok (Segment a b 0)) ns ≡ holds_says ns a b ws
    unfolding holds_says
    holds_none q = rw (sym p ∙ q)

    pub holds_misspelt : t ≡ false → (w : List ℕ) (u : Bool) → w ≡ first ws → u ≡ same w holds_word → not u ≡ true → with_names (Err BadWord) ns ≡ holds_says ns a b ws
    unfolding holds_says
    holds_misspelt q w u d e f = rw (sym p ∙ q, same_told ws w holds_word u false d e (not-true u f))

    pub holds_goes : t ≡ false → (w : List ℕ) (u : Bool) (rest after : List (List ℕ)) (r : Outcome) → w ≡ first ws → u ≡ same w holds_word → not u ≡ false → rest ≡ others ws
        → with_names r after ≡ held_says ns a b rest → with_names r after ≡ holds_says ns a b ws
    unfolding holds_says
    holds_goes q w u rest after r d e f g said = said ∙ rw (sym p ∙ q, same_told ws w holds_word u true d e (not-false u f), ← g)

  -- ---- from the shortest time on

  pub segment_not : (ws : List (List ℕ)) (w : List ℕ) (x : Option ℕ) → w ≡ first ws → x ≡ number_of most_four w → x ≡ None → with_names (Err BadNumber) ns ≡ segment_says ns ws
  unfolding segment_says
  segment_not ws w x p q e = rw (number_told most_four ws w x None p q e)

  module _ (ws rest : List (List ℕ)) (w v : List ℕ) (x y : Option ℕ) (a : ℕ) (p : w ≡ first ws) (q : x ≡ number_of most_four w) (e : x ≡ Some a)
      (g : rest ≡ others ws) (d : v ≡ first rest) (f : y ≡ number_of most_four v) where
    pub segment_half : y ≡ None → with_names (Err BadNumber) ns ≡ segment_says ns ws
    unfolding segment_says
    segment_half h = rw (number_told most_four ws w x (Some a) p q e, number_told most_four (others ws) v y None (d ∙ ap first g) f h)

    pub segment_goes : (b : ℕ) (later after : List (List ℕ)) (r : Outcome) → y ≡ Some b → later ≡ others rest → with_names r after ≡ holds_says ns a b later
        → with_names r after ≡ segment_says ns ws
    unfolding segment_says
    segment_goes b later after r h i said =
        said ∙ rw (number_told most_four ws w x (Some a) p q e, number_told most_four (others ws) v y (Some b) (d ∙ ap first g) f h, ← g, ← i)

  -- ---- any line: its words, and the tests of the first word

  pub line_empty : (ws : List (List ℕ)) (t : Bool) → t ≡ none ws → t ≡ true → with_names (Ok Nothing) ns ≡ line_says ns ws
  unfolding line_says
  line_empty ws t p q = rw (sym p ∙ q)

  module _ (ws : List (List ℕ)) (t f : Bool) (w : List ℕ) (p : t ≡ none ws) (q : t ≡ false) (d : w ≡ first ws) (e : f ≡ same w frame_word) where
    pub line_frame : f ≡ true → (rest : List (List ℕ)) (line : Outcome) → rest ≡ others ws → line ≡ frame_says rest → with_names line ns ≡ line_says ns ws
    unfolding line_says
    line_frame i rest line g h = rw (sym p ∙ q, same_told ws w frame_word f true d e i, ← g, ← h)

    module _ (no : f ≡ false) (j : Bool) (v : List ℕ) (d2 : v ≡ first ws) (e2 : j ≡ same v job_word) where
      pub line_job : j ≡ true → (rest : List (List ℕ)) (line : Outcome) → rest ≡ others ws → line ≡ job_says rest → with_names line ns ≡ line_says ns ws
      unfolding line_says
      line_job i rest line g h = rw (sym p ∙ q, same_told ws w frame_word f false d e no, same_told ws v job_word j true d2 e2 i, ← g, ← h)

      module _ (no2 : j ≡ false) (k : Bool) (u : List ℕ) (d3 : u ≡ first ws) (e3 : k ≡ same u segment_word) where
        pub line_segment : k ≡ true → (rest after : List (List ℕ)) (r : Outcome) → rest ≡ others ws → with_names r after ≡ segment_says ns rest → with_names r after ≡ line_says ns ws
        unfolding line_says
        line_segment i rest after r g said =
            said ∙ rw (sym p ∙ q, same_told ws w frame_word f false d e no, same_told ws v job_word j false d2 e2 no2, same_told ws u segment_word k true d3 e3 i, ← g)

        pub line_unknown : k ≡ false → with_names (Err UnknownLine) ns ≡ line_says ns ws
        unfolding line_says
        line_unknown i =
            rw (sym p ∙ q, same_told ws w frame_word f false d e no, same_told ws v job_word j false d2 e2 no2, same_told ws u segment_word k false d3 e3 i)
