-- The forms of a line, path by path: w is the word at a place, x the number read there, `rest` the words after it and t the outcome of a test.
use Rattle.std.specs.Prelude.{ℕ, ◌≡◌, Bool, not, List, Option, Some, None, Ok, Err}
use Rattle.std.proofs.Common.{sym, ◌∙◌}
use Rattle.std.proofs.Math.Path.{ap}
use Rattle.std.proofs.Math.Bool.{true, false}
use Rattle.std.proofs.lemmas.Bool.{not-true, not-false}
use Rattle.draft.specs.Words.{first, others, none, same}
use Rattle.draft.specs.Numbers.{number_of}
use Rattle.draft.specs.Forms.{Outcome, most_four, most_one, release_word, priority_word, frame_says, priority_says, release_says, job_says}
use Rattle.draft.specs.declared.cause.Cause.TheVariants.{BadNumber, BadWord, Trailing}
use Rattle.draft.specs.declared.forms.Line.TheVariants.{Frame, Job}

-- ---- what the code learns of the words

pub number_told : (most : ℕ) (ws : List (List ℕ)) (w : List ℕ) (x y : Option ℕ) → w ≡ first ws → x ≡ number_of most w → x ≡ y → number_of most (first ws) ≡ y
number_told most ws w x y p q r = ap (number_of most) (sym p) ∙ sym q ∙ r

pub same_told : (ws : List (List ℕ)) (w key : List ℕ) (t b : Bool) → w ≡ first ws → t ≡ same w key → t ≡ b → same (first ws) key ≡ b
same_told ws w key t b p q r = ap (λ (v : List ℕ). same v key) (sym p) ∙ sym q ∙ r

pub none_told : (ws rest : List (List ℕ)) (t b : Bool) → rest ≡ ws → t ≡ none rest → t ≡ b → none ws ≡ b
none_told ws rest t b p q r = ap none (sym p) ∙ sym q ∙ r

-- ---- the frame's line

pub frame_not : (ws : List (List ℕ)) (w : List ℕ) (x : Option ℕ) → w ≡ first ws → x ≡ number_of most_four w → x ≡ None → Err BadNumber ≡ frame_says ws
unfolding frame_says
frame_not ws w x p q r = rw (number_told most_four ws w x None p q r)

pub frame_more : (ws rest : List (List ℕ)) (w : List ℕ) (x : Option ℕ) (n : ℕ) (t : Bool) → w ≡ first ws → x ≡ number_of most_four w → x ≡ Some n
    → rest ≡ others ws → t ≡ none rest → not t ≡ true → Err Trailing ≡ frame_says ws
unfolding frame_says
frame_more ws rest w x n t p q r a b d = rw (number_told most_four ws w x (Some n) p q r, none_told (others ws) rest t false a b (not-true t d))

pub frame_whole : (ws rest : List (List ℕ)) (w : List ℕ) (x : Option ℕ) (n : ℕ) (t : Bool) → w ≡ first ws → x ≡ number_of most_four w → x ≡ Some n
    → rest ≡ others ws → t ≡ none rest → not t ≡ false → Ok (Frame n) ≡ frame_says ws
unfolding frame_says
frame_whole ws rest w x n t p q r a b d = rw (number_told most_four ws w x (Some n) p q r, none_told (others ws) rest t true a b (not-false t d))

-- ---- a job's line, from its priority's number on

pub priority_not : (release : ℕ) (ws : List (List ℕ)) (w : List ℕ) (x : Option ℕ) → w ≡ first ws → x ≡ number_of most_one w → x ≡ None → Err BadNumber ≡ priority_says release ws
unfolding priority_says
priority_not release ws w x p q r = rw (number_told most_one ws w x None p q r)

pub priority_more : (release : ℕ) (ws rest : List (List ℕ)) (w : List ℕ) (x : Option ℕ) (n : ℕ) (t : Bool) → w ≡ first ws → x ≡ number_of most_one w → x ≡ Some n
    → rest ≡ others ws → t ≡ none rest → not t ≡ true → Err Trailing ≡ priority_says release ws
unfolding priority_says
priority_more release ws rest w x n t p q r a b d = rw (number_told most_one ws w x (Some n) p q r, none_told (others ws) rest t false a b (not-true t d))

pub priority_whole : (release : ℕ) (ws rest : List (List ℕ)) (w : List ℕ) (x : Option ℕ) (n : ℕ) (t : Bool) → w ≡ first ws → x ≡ number_of most_one w → x ≡ Some n
    → rest ≡ others ws → t ≡ none rest → not t ≡ false → Ok (Job release n) ≡ priority_says release ws
unfolding priority_says
priority_whole release ws rest w x n t p q r a b d = rw (number_told most_one ws w x (Some n) p q r, none_told (others ws) rest t true a b (not-false t d))

-- ---- from its release's number on

pub release_not : (ws : List (List ℕ)) (w : List ℕ) (x : Option ℕ) → w ≡ first ws → x ≡ number_of most_four w → x ≡ None → Err BadNumber ≡ release_says ws
unfolding release_says
release_not ws w x p q r = rw (number_told most_four ws w x None p q r)

module _ (ws rest : List (List ℕ)) (w v : List ℕ) (x : Option ℕ) (n : ℕ) (t : Bool) (p : w ≡ first ws) (q : x ≡ number_of most_four w) (r : x ≡ Some n)
    (a : rest ≡ others ws) (b : v ≡ first rest) (d : t ≡ same v priority_word) where
  pub release_misspelt : not t ≡ true → Err BadWord ≡ release_says ws
  unfolding release_says
  release_misspelt e = rw (number_told most_four ws w x (Some n) p q r, same_told (others ws) v priority_word t false (b ∙ ap first a) d (not-true t e))

  pub release_goes : (after : List (List ℕ)) (line : Outcome) → not t ≡ false → after ≡ others rest → line ≡ priority_says n after → line ≡ release_says ws
  unfolding release_says
  release_goes after line e f g = g ∙ rw (number_told most_four ws w x (Some n) p q r, same_told (others ws) v priority_word t true (b ∙ ap first a) d (not-false t e), f, a)

-- ---- from its name on

pub job_nameless : (ws : List (List ℕ)) (t : Bool) → t ≡ none ws → t ≡ true → Err BadWord ≡ job_says ws
unfolding job_says
job_nameless ws t p q = rw (sym p ∙ q)

module _ (ws rest : List (List ℕ)) (v : List ℕ) (s t : Bool) (p : s ≡ none ws) (q : s ≡ false) (a : rest ≡ others ws) (b : v ≡ first rest) (d : t ≡ same v release_word) where
  pub job_misspelt : not t ≡ true → Err BadWord ≡ job_says ws
  unfolding job_says
  job_misspelt e = rw (sym p ∙ q, same_told (others ws) v release_word t false (b ∙ ap first a) d (not-true t e))

  pub job_goes : (after : List (List ℕ)) (line : Outcome) → not t ≡ false → after ≡ others rest → line ≡ release_says after → line ≡ job_says ws
  unfolding job_says
  job_goes after line e f g = g ∙ rw (sym p ∙ q, same_told (others ws) v release_word t true (b ∙ ap first a) d (not-false t e), f, a)
