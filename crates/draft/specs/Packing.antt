-- What packing a text answers.
use Rattle.std.specs.Prelude.{ℕ, ◌+◌, ◌≡◌, List, [], ◌∷◌, cond, length, eqb, Result, Ok, Err}
use Rattle.std.proofs.lemmas.List.Edits.{sets}
use Rattle.draft.specs.Text.{Lined, Told, says_of, lined_bytes}
use Rattle.draft.specs.Cause.{cause_number}
use Rattle.draft.specs.declared.cause.Refused.{Refused}
use Rattle.table.specs.Records.{size_of}
use Rattle.table.specs.Refusal.{Refusal, refusal}

-- the line of the record whose mark stands at a place, where the first of them stands at `at`; the other number where none does
unfoldable pub line_at : (at place : ℕ) → List Lined → ℕ → ℕ
line_at at place [] other = other
line_at at place (r ∷ rs) other = cond (eqb at place) r.line (line_at (at + size_of r.what) place rs other)

-- the first number, and the other one where it is 0
abbrev pub or_last : ℕ → ℕ → ℕ
or_last n last = cond (eqb n 0) last n

-- an answer: the cause (0 for none), its line, and the bytes
pub record Answer : Type 0 where
  pub cause : ℕ
  pub line : ℕ
  pub bytes : List ℕ

-- the records that the text says, judged as a table: their bytes; or 20 + the table's refusal and the line of the record where it arose, and
-- the text's last line where no record stands there
abbrev pub judged : Told → Refusal → Answer
judged told r =
    cond (eqb r.number 0) (record { cause = 0; line = 0; bytes = lined_bytes told.records })
    (record { cause = 20 + r.number; line = or_last (line_at 0 r.place told.records 0) told.line; bytes = [] })

abbrev pub answer_to : Told → Answer
answer_to told =
    cond (eqb told.cause 0) (judged told (refusal (lined_bytes told.records))) (record { cause = told.cause; line = told.line; bytes = [] })

unfoldable pub pack_of : List ℕ → Answer
pack_of s = answer_to (says_of s)

-- the answer is given: without a cause so many bytes, the table's, stand at the start of the caller's; with one the caller's bytes are as they were
abbrev pub Gives : (before after : List ℕ) → Result ℕ Refused → Answer → Type 0
Gives before after (Ok n) a = (a.cause ≡ 0) × (n ≡ length a.bytes) × (after ≡ sets before 0 a.bytes)
Gives before after (Err e) a = (cause_number e.cause ≡ a.cause) × (e.line ≡ a.line) × (after ≡ before)
