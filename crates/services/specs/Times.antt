-- Times as they are lent: one per segment in table order.
use Rattle.kernel.specs.declared.jobs.Jobs.{Jobs}
use Rattle.std.specs.Prelude.{ℕ, ◌≤◌, ◌<◌, ◌≡◌, List, length}
use Rattle.kernel.specs.Rules.{JobSet, Within}
use Rattle.kernel.specs.Jobs.{sum}
use Rattle.kernel.specs.Log.{time_in}
use Rattle.kernel.specs.Held.{set_of}
use Rattle.kernel.specs.Code.{time_at}

-- exactly one time per segment, each within its bounds
pub record Fit (J : JobSet) (times : List ℕ) : Type 0 where
  pub count : length times ≡ sum J.segments J.jobs
  pub within : Within J (time_in J times)

-- ---- as the code looks at them, by the number of a job's first segment

abbrev pub FitAt : (w : Jobs) (times : List ℕ) → (i k : ℕ) → Type 0
FitAt w times i k = ((set_of w).shortest i k ≤ time_at w times i k) × (time_at w times i k ≤ (set_of w).longest i k)

abbrev pub FitJob : (w : Jobs) (times : List ℕ) → (i : ℕ) → Type 0
FitJob w times i = (k : ℕ) → k < (set_of w).segments i → FitAt w times i k

abbrev pub FitJobs : (w : Jobs) (times : List ℕ) → Type 0
FitJobs w times = (i : ℕ) → i < (set_of w).jobs → FitJob w times i
