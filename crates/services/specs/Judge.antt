-- Judge: a table and a log to times (paper 01, 'Switches and logs').
use Rattle.kernel.specs.declared.jobs.Jobs.{Jobs}
use Rattle.std.specs.Prelude.{ℕ, ◌≤◌, ◌<◌, ◌≡◌, List, length, Result, Ok}
use Rattle.std.proofs.lemmas.List.Edits.{sets}
use Rattle.kernel.specs.Rules.{JobSet, Within}
use Rattle.kernel.specs.Jobs.{sum}
use Rattle.kernel.specs.Log.{time_in}
use Rattle.kernel.specs.Held.{set_of}
use Rattle.services.specs.Refusals.{Declines}
use Rattle.services.specs.Open.{jobs_in, Answered}
use Rattle.services.specs.Times.{Fit}
use Rattle.services.specs.Replay.{log_in}
use Rattle.services.specs.declared.refusal.Refusal.{Refusal}

-- one time per segment within its bounds, whose run has this log
pub record Gives (J : JobSet) (times log : List ℕ) : Type 0 where
  pub fit : Fit J times
  pub same : log_in J times ≡ log

-- how many segments there are in all
abbrev pub segments_in : JobSet → ℕ
segments_in J = sum J.segments J.jobs

module _ (log before after : List ℕ) (r : Result (Unit {0}) Refusal) where
  -- with a refusal the lent words hold what they held
  abbrev pub Declined : ℕ → Type 0
  Declined n = Declines r n × (after ≡ before)

  -- the times stand at the start of the lent words, and nothing after them is touched
  pub record Judges (J : JobSet) : Type 0 where
    -- 7: fewer words than segments
    pub small : length before < segments_in J → Declined 7
    -- 8: the log is of no run
    pub foreign : segments_in J ≤ length before → ((times : List ℕ) → Gives J times log → ⊥) → Declined 8
    pub done : segments_in J ≤ length before → (times : List ℕ) → Gives J times log
        → (r ≡ Ok tt) × (after ≡ sets before 0 times)

-- what judge promises
abbrev pub JudgePromise : (bytes log before after : List ℕ) → Result (Unit {0}) Refusal → Type 0
JudgePromise bytes log before after r = Answered bytes (Declined log before after r) (Judges log before after r (jobs_in bytes))

-- ---- inside

-- the times, of which there may be more than segments, are within their bounds, and the run with them has this log
pub record RunsTo (w : Jobs) (times log : List ℕ) : Type 0 where
  pub within : Within (set_of w) (time_in (set_of w) times)
  pub same : log ≡ log_in (set_of w) times
