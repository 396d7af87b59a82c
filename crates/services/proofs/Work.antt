-- The ticks of a job, and of all, are few enough for a word.
use Rattle.std.proofs.Common.{ℕ, ◌<◌, ◌≤◌, arith}
use Rattle.kernel.specs.declared.jobs.Jobs.{Jobs}
use Rattle.kernel.specs.Jobs.{sum}
use Rattle.kernel.specs.Held.{set_of, Loaded}
use Rattle.kernel.specs.Laws.Sums.{one_of_sum, sum_millions}
use Rattle.kernel.specs.Laws.Ending.{work}

module _ (w : Jobs) (L : Loaded w) (i : ℕ) (h : i < (set_of w).jobs) where
  pub few_of_job : (set_of w).segments i ≤ 64
  few_of_job = omega (arith, one_of_sum (set_of w).segments (set_of w).jobs i h, L.few_segments)

  pub small_work : work (set_of w) (set_of w).longest i ≤ 64000000
  small_work = omega (arith, few_of_job, sum_millions ((set_of w).longest i) ((set_of w).segments i) (λ k q. L.small_times i k h q))

  -- and the first k segments
  pub small_sum : (k : ℕ) → k ≤ (set_of w).segments i → sum ((set_of w).longest i) k ≤ 64000000
  small_sum k q = omega (arith, few_of_job, sum_millions ((set_of w).longest i) k (λ j r. L.small_times i j h (omega arith)))
