-- What every service does first: refusals 1 to 5 of a table of bytes.
use Rattle.std.specs.Prelude.{ℕ, ◌≡◌, ◌≢◌, List, Result, IsOkAnd}
use Rattle.table.specs.Refusal.{refusal, table_of}
use Rattle.kernel.specs.Rules.{JobSet, SomeRunEndsLate}
use Rattle.kernel.specs.Jobs.{jobs_of}
use Rattle.jobset.specs.Load.{Laid}
use Rattle.services.specs.Refusals.{Declines}
use Rattle.services.specs.declared.refusal.Refusal.{Refusal}
use Rattle.services.specs.declared.runnable.Runnable.{Runnable as Opened}

-- the job set of the table that the bytes say
abbrev pub jobs_in : List ℕ → JobSet
jobs_in bytes = jobs_of (table_of bytes)

-- 1 to 4 do not apply, and no run ends later than the frame length
pub record Runnable (bytes : List ℕ) : Type 0 where
  pub whole : (refusal bytes).number ≡ 0
  pub timely : SomeRunEndsLate (jobs_in bytes) → ⊥

-- an answer: declined with the lowest of 1 to 5 that applies, or what is said of a table to which none does
pub record Answered (bytes : List ℕ) (Declined : ℕ → Type 0) (Said : Type 0) : Type 0 where
  pub faulty : (refusal bytes).number ≢ 0 → Declined (refusal bytes).number
  pub late : (refusal bytes).number ≡ 0 → SomeRunEndsLate (jobs_in bytes) → Declined 5
  pub runnable : Runnable bytes → Said

-- ---- the opening of a table

-- what the code holds of it is its job set
abbrev pub Opens : List ℕ → Result Opened Refusal → Type 0
Opens bytes r = Answered bytes (Declines r) (IsOkAnd r (λ s. Laid (table_of bytes) s.set.jobs))
