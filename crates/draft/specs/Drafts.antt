-- A draft as the code holds it: its bytes in one array, and the line of each record at the place of its mark in another.
use Rattle.std.specs.Prelude.{ℕ, ◌+◌, ◌≤◌, ◌≡◌, true, List, ◌++◌, length, get_or, set, Option, Some, None, Result, Ok, Err}
use Rattle.draft.specs.Text.{Lined, Last, no_job, a_job, Draw, records_of, lined_bytes, empty}
use Rattle.draft.specs.Cause.{cause_number}
use Rattle.draft.specs.Packing.{line_at}
use Rattle.draft.specs.Locks.{most_locks}
use Rattle.draft.specs.Known.{known}
use Rattle.draft.specs.declared.cause.Refused.{Refused}
use Rattle.draft.specs.declared.draft.LastJob.{LastJob}
use Rattle.draft.specs.declared.draft.Draft.{Draft}

-- the last job: the place of its mark, its line and how many segments it has
abbrev pub LastIs : Option LastJob → List Lined → Last → Type 0
LastIs None done no_job = Unit {0}
LastIs None done (a_job line release priority segments) = ⊥
LastIs (Some job) done no_job = ⊥
LastIs (Some job) done (a_job line release priority segments) = (job.at ≡ length (lined_bytes done)) × (job.line ≡ line) × (job.segments ≡ length segments)

abbrev pub size : Draft → ℕ
size d = length d.made.items

-- the draft holds these records and names, and the text is not refused so far
pub record Holds (d : Draft) (x : Draw) : Type 0 where
  pub cause : x.cause ≡ 0
  pub line : d.line ≡ x.line
  pub bytes : d.made.items ≡ lined_bytes (records_of x)
  pub lines_room : length d.lines ≡ 4096
  pub noted : (k : ℕ) → get_or d.lines k 0 ≡ line_at 0 k (records_of x) 0
  pub begun : empty x.done ≡ true → x.last ≡ no_job
  pub last : LastIs d.job x.done x.last
  pub names : known d.names ≡ x.names
  pub few : length x.names ≤ most_locks

-- the text is refused for this cause, at this line
abbrev pub Refuses : Refused → Draw → Type 0
Refuses e x = (cause_number e.cause ≡ x.cause) × (e.line ≡ x.line)

-- a step of the code does what one of the text does
abbrev pub Told : Draft → Result (Unit {0}) Refused → Draw → Type 0
Told d (Ok u) x = Holds d x
Told d (Err e) x = Refuses e x

abbrev pub Follows : Draft → Draft → Result (Unit {0}) Refused → (Draw → Draw) → Type 0
Follows d after result step = (x : Draw) → Holds d x → Told after result (step x)

-- a record's bytes stand after the others, and its line at the place of its mark
pub record Pushed (d : Draft) (bytes : List ℕ) (after : Draft) : Type 0 where
  pub fits : size d + length bytes ≤ 4096
  pub made : after.made.items ≡ d.made.items ++ bytes
  pub lines : after.lines ≡ set d.lines (size d) d.line
  pub line : after.line ≡ d.line
  pub job : after.job ≡ d.job
  pub names : after.names ≡ d.names
