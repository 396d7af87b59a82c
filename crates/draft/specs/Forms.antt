-- What a line says, by its words: `frame N`, `job NAME release N priority N`, `segment SHORTEST LONGEST`, `segment SHORTEST LONGEST holds LOCK...`.
use Rattle.std.specs.Prelude.{ℕ, List, [], ◌∷◌, cond, Option, Some, None, Result, Ok, Err}
use Rattle.draft.specs.Words.{first, others, none, same}
use Rattle.draft.specs.Numbers.{number_of}
use Rattle.draft.specs.Locks.{names_with, held_from, too_many}
use Rattle.draft.specs.declared.cause.Cause.{Cause}
use Rattle.draft.specs.declared.cause.Cause.TheVariants.{UnknownLine, BadNumber, BadWord, Trailing, TooManyLocks}
use Rattle.draft.specs.declared.forms.Line.{Line}
use Rattle.draft.specs.declared.forms.Line.TheVariants.{Nothing, Frame, Job, Segment}

-- the largest number of four bytes, and of one
abbrev pub most_four : ℕ
most_four = 4294967295

abbrev pub most_one : ℕ
most_one = 255

-- the words of the forms
abbrev pub frame_word : List ℕ
frame_word = 102 ∷ 114 ∷ 97 ∷ 109 ∷ 101 ∷ []

abbrev pub job_word : List ℕ
job_word = 106 ∷ 111 ∷ 98 ∷ []

abbrev pub segment_word : List ℕ
segment_word = 115 ∷ 101 ∷ 103 ∷ 109 ∷ 101 ∷ 110 ∷ 116 ∷ []

abbrev pub release_word : List ℕ
release_word = 114 ∷ 101 ∷ 108 ∷ 101 ∷ 97 ∷ 115 ∷ 101 ∷ []

abbrev pub priority_word : List ℕ
priority_word = 112 ∷ 114 ∷ 105 ∷ 111 ∷ 114 ∷ 105 ∷ 116 ∷ 121 ∷ []

abbrev pub holds_word : List ℕ
holds_word = 104 ∷ 111 ∷ 108 ∷ 100 ∷ 115 ∷ []

-- a line, or the cause for which it is refused
abbrev pub Outcome : Type 0
Outcome = Result Line Cause

-- the line ends here; else there is something after its end
abbrev pub ending : List (List ℕ) → Outcome → Outcome
ending ws line = cond (none ws) line (Err Trailing)

-- with the number that is due, or the line refused for want of it
abbrev pub with_number : {A : Type 0} → Option ℕ → A → (ℕ → A) → A
with_number (Some n) refused rest = rest n
with_number None refused rest = refused

-- a line from a place of its form on, by the words from there on

unfoldable pub frame_says : List (List ℕ) → Outcome
frame_says ws = with_number (number_of most_four (first ws)) (Err BadNumber) (λ n. ending (others ws) (Ok (Frame n)))

unfoldable pub priority_says : ℕ → List (List ℕ) → Outcome
priority_says release ws = with_number (number_of most_one (first ws)) (Err BadNumber) (λ n. ending (others ws) (Ok (Job release n)))

unfoldable pub release_says : List (List ℕ) → Outcome
release_says ws =
    with_number (number_of most_four (first ws)) (Err BadNumber)
    (λ n. cond (same (first (others ws)) priority_word) (priority_says n (others (others ws))) (Err BadWord))

unfoldable pub job_says : List (List ℕ) → Outcome
job_says ws = cond (none ws) (Err BadWord) (cond (same (first (others ws)) release_word) (release_says (others (others ws))) (Err BadWord))

-- a line, and the lock names known after it
pub record Says : Type 0 where
  pub line : Line
  pub names : List (List ℕ)

-- a line after which these names are known, or the cause for which it is refused
abbrev pub with_names : Outcome → List (List ℕ) → Result Says Cause
with_names (Ok line) ns = Ok (record { line = line; names = ns })
with_names (Err cause) ns = Err cause

unfoldable pub held_says : List (List ℕ) → (shortest longest : ℕ) → List (List ℕ) → Result Says Cause
held_says ns shortest longest ws =
    cond (none ws) (Err BadWord)
    (cond (too_many ns ws) (Err TooManyLocks) (with_names (Ok (Segment shortest longest (held_from ns 0 ws))) (names_with ns ws)))

unfoldable pub holds_says : List (List ℕ) → (shortest longest : ℕ) → List (List ℕ) → Result Says Cause
holds_says ns shortest longest ws =
    cond (none ws) (with_names (Ok (Segment shortest longest 0)) ns)
    (cond (same (first ws) holds_word) (held_says ns shortest longest (others ws)) (Err BadWord))

unfoldable pub segment_says : List (List ℕ) → List (List ℕ) → Result Says Cause
segment_says ns ws =
    with_number (number_of most_four (first ws)) (Err BadNumber)
    (λ shortest. with_number (number_of most_four (first (others ws))) (Err BadNumber) (λ longest. holds_says ns shortest longest (others (others ws))))

-- what a line of these words says, where these lock names are known before it
unfoldable pub line_says : List (List ℕ) → List (List ℕ) → Result Says Cause
line_says ns ws =
    cond (none ws) (with_names (Ok Nothing) ns)
    (cond (same (first ws) frame_word) (with_names (frame_says (others ws)) ns)
    (cond (same (first ws) job_word) (with_names (job_says (others ws)) ns)
    (cond (same (first ws) segment_word) (segment_says ns (others ws)) (Err UnknownLine))))
