-- The numbers of a line fit their fields.
use Rattle.std.specs.Prelude.{ℕ, ◌^◌, ◌≤◌, ◌<◌, ◌≡◌, refl, Bool, cond, List, [], ◌∷◌, ◌++◌, ltb, Option, Some, None, Result, Ok, Err}
use native.Mathlib.Omega.{arith}
use Rattle.std.proofs.Math.Bool.{true, false}
use Rattle.std.proofs.Math.ListN.{length}
use Rattle.std.proofs.Common.{length-append}
use Rattle.std.specs.Int.Bits.{bit_or}
use Rattle.std.proofs.lemmas.Nat.{or_lt}
use borrow.Author.Tests.{ltb-true, ltb-false}
use Rattle.draft.specs.Words.{first, others, none, same}
use Rattle.draft.specs.Numbers.{number_of}
use Rattle.draft.specs.Locks.{number_in, knowing, names_with, held_from, too_many}
use Rattle.draft.specs.Forms.{most_four, most_one, frame_word, job_word, segment_word, release_word, priority_word, holds_word, Outcome, with_names, with_number, frame_says, priority_says, release_says, job_says, Says, held_says, holds_says, segment_says, line_says}
use Rattle.draft.specs.Laws.Bits.{bit_small}
use Rattle.draft.specs.Laws.Digits.{number_most}
use Rattle.draft.specs.Laws.Knowing.{number_le, names_grow}
use Rattle.draft.specs.declared.cause.Cause.{Cause}
use Rattle.draft.specs.declared.cause.Cause.TheVariants.{UnknownLine, BadNumber, BadWord, Trailing, TooManyLocks}
use Rattle.draft.specs.declared.forms.Line.{Line}
use Rattle.draft.specs.declared.forms.Line.TheVariants.{Nothing, Frame, Job, Segment}

-- the numbers of a line fit their fields
abbrev pub LineFits : Line → Type 0
LineFits Nothing = 0 ≤ 0
LineFits (Frame f) = f < 4294967296
LineFits (Job r p) = (r < 4294967296) × (p < 256)
LineFits (Segment l h m) = (l < 4294967296) × (h < 4294967296) × (m < 65536)

abbrev OutcomeFits : Outcome → Type 0
OutcomeFits (Ok line) = LineFits line
OutcomeFits (Err cause) = 0 ≤ 0

-- what holds both ways, and of every number read
either : {A : Type 0} (P : A → Type 0) (b : Bool) (x y : A) → P x → P y → P (cond b x y)
either P true x y p q = p
either P false x y p q = q

each_number : {A : Type 0} (P : A → Type 0) (most : ℕ) (w : List ℕ) (x : A) (f : ℕ → A) → P x → ((n : ℕ) → n ≤ most → P (f n)) → P (with_number (number_of most w) x f)
each_number P most w x f p q = go (number_of most w) refl
  where
    go : (y : Option ℕ) → number_of most w ≡ y → P (with_number y x f)
    go (Some n) e = q n (number_most most n w e)
    go None e = p

-- the lines without locks
frame_fits : (ws : List (List ℕ)) → OutcomeFits (frame_says ws)
unfolding frame_says
frame_fits ws =
    each_number OutcomeFits most_four (first ws) (Err BadNumber) _ (omega arith) (λ n l. either OutcomeFits (none (others ws)) (Ok (Frame n)) (Err Trailing) (omega arith) (omega arith))

priority_fits : (r : ℕ) (ws : List (List ℕ)) → r ≤ most_four → OutcomeFits (priority_says r ws)
unfolding priority_says
priority_fits r ws h =
    each_number OutcomeFits most_one (first ws) (Err BadNumber) _ (omega arith) (λ n l. either OutcomeFits (none (others ws)) (Ok (Job r n)) (Err Trailing) (omega arith, omega arith) (omega arith))

release_fits : (ws : List (List ℕ)) → OutcomeFits (release_says ws)
unfolding release_says
release_fits ws =
    each_number OutcomeFits most_four (first ws) (Err BadNumber) _ (omega arith)
    (λ n l. either OutcomeFits (same (first (others ws)) priority_word) (priority_says n (others (others ws))) (Err BadWord) (priority_fits n (others (others ws)) l) (omega arith))

job_fits : (ws : List (List ℕ)) → OutcomeFits (job_says ws)
unfolding job_says
job_fits ws =
    either OutcomeFits (none ws) (Err BadWord) _ (omega arith)
    (either OutcomeFits (same (first (others ws)) release_word) (release_says (others (others ws))) (Err BadWord) (release_fits (others (others ws))) (omega arith))

-- a name's number is below how many are known with it
number_known : (ns : List (List ℕ)) (w : List ℕ) → number_in ns w < length (knowing ns w)
number_known ns w = go (ltb (number_in ns w) (length ns)) refl
  where
    go : (b : Bool) → ltb (number_in ns w) (length ns) ≡ b → number_in ns w < length (cond b ns (ns ++ w ∷ []))
    go true e = ltb-true (number_in ns w) (length ns) e
    go false e = omega (arith, number_le ns w, length-append ns (w ∷ []))

held_fits : (ns : List (List ℕ)) (held : ℕ) (ws : List (List ℕ)) → held < 65536 → length (names_with ns ws) ≤ 16 → held_from ns held ws < 65536
unfolding held_from names_with
held_fits ns held [] h l = h
held_fits ns held (w ∷ ws) h l =
    held_fits (knowing ns w) (bit_or held (2 ^ number_in ns w)) ws
    (or_lt 16 held (2 ^ number_in ns w) h (bit_small (number_in ns w) (omega (arith, number_known ns w, names_grow (knowing ns w) ws, l)))) l

-- any line, where at most 16 lock names are known
abbrev pub SaysFit : Result Says Cause → Type 0
SaysFit (Ok x) = LineFits x.line × (length x.names ≤ 16)
SaysFit (Err cause) = 0 ≤ 0

module _ (ns : List (List ℕ)) (few : length ns ≤ 16) where
  lock_fits : (a b : ℕ) (ws : List (List ℕ)) → a ≤ most_four → b ≤ most_four → SaysFit (held_says ns a b ws)
  unfolding held_says
  lock_fits a b ws h l = either SaysFit (none ws) (Err BadWord) _ (omega arith) (go (too_many ns ws) refl)
    where
      go : (t : Bool) → too_many ns ws ≡ t
          → SaysFit (cond t (Err TooManyLocks) (with_names (Ok (Segment a b (held_from ns 0 ws))) (names_with ns ws)))
      go true e = omega arith
      go false e =
          let most : length (names_with ns ws) ≤ 16 = ltb-false 16 (length (names_with ns ws)) e in
          ((omega arith, omega arith, held_fits ns 0 ws (omega arith) most), most)

  holds_fits : (a b : ℕ) (ws : List (List ℕ)) → a ≤ most_four → b ≤ most_four → SaysFit (holds_says ns a b ws)
  unfolding holds_says
  holds_fits a b ws h l =
      either SaysFit (none ws) (with_names (Ok (Segment a b 0)) ns) _ ((omega arith, omega arith, omega arith), few)
      (either SaysFit (same (first ws) holds_word) (held_says ns a b (others ws)) (Err BadWord) (lock_fits a b (others ws) h l) (omega arith))

  segment_fits : (ws : List (List ℕ)) → SaysFit (segment_says ns ws)
  unfolding segment_says
  segment_fits ws =
      each_number SaysFit most_four (first ws) (Err BadNumber) _ (omega arith)
      (λ a h. each_number SaysFit most_four (first (others ws)) (Err BadNumber) _ (omega arith) (λ b l. holds_fits a b (others (others ws)) h l))

  plain_fits : (line : Outcome) → OutcomeFits line → SaysFit (with_names line ns)
  plain_fits (Ok line) h = (h, few)
  plain_fits (Err cause) h = h

  pub line_fits : (ws : List (List ℕ)) → SaysFit (line_says ns ws)
  unfolding line_says
  line_fits ws =
      either SaysFit (none ws) (with_names (Ok Nothing) ns) _ (omega arith, few)
      (either SaysFit (same (first ws) frame_word) (with_names (frame_says (others ws)) ns) _ (plain_fits (frame_says (others ws)) (frame_fits (others ws)))
      (either SaysFit (same (first ws) job_word) (with_names (job_says (others ws)) ns) _ (plain_fits (job_says (others ws)) (job_fits (others ws)))
      (either SaysFit (same (first ws) segment_word) (segment_says ns (others ws)) (Err UnknownLine) (segment_fits (others ws)) (omega arith))))
