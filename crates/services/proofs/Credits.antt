-- What is credited to the segment that ran.
use Rattle.std.proofs.Common.{◌≡◌, ℕ, suc, ◌+◌, ◌-◌, ◌<◌, ◌≤◌, min, List, length, get_or, set, arith, length-set, le-ltb, lt-ltb}
use Rattle.kernel.specs.declared.accepted.Accepted.{Accepted}
use Rattle.kernel.specs.declared.jobs.Jobs.{Jobs}
use Rattle.kernel.specs.Rules.{JobSet}
use Rattle.kernel.specs.Jobs.{sum}
use Rattle.kernel.specs.Log.{place}
use Rattle.kernel.specs.Held.{set_of, first_of}
use Rattle.kernel.specs.Laws.Small.{has_job}
use Rattle.kernel.specs.Laws.Sums.{sum_rises}
use Rattle.kernel.specs.Laws.Tests.{split}
use Rattle.services.specs.Told.{credited}
use Rattle.services.specs.declared.told.Ran.{Ran}

-- a segment's place comes before those of the jobs after it
pub place_before : (J : JobSet) (i k n : ℕ) → i < n → k < J.segments i → place J i k < sum J.segments n
unfolding sum
place_before J i k n h q = omega (arith, sum_rises J.segments (suc i) n h)

-- the word of the segment that ran is one of 64
pub ran_inside : (set : Accepted) (ran : Ran) → ran.segment < (set_of set.jobs).segments ran.job → first_of set.jobs ran.job + ran.segment < 64
ran_inside set ran h =
    let i : ran.job < (set_of set.jobs).jobs = has_job set.jobs ran.job ran.segment h in
    omega (arith, set.loaded.few_segments, set.loaded.firsts ran.job i, place_before (set_of set.jobs) ran.job ran.segment (set_of set.jobs).jobs i h)

module _ (w : Jobs) (ran : Ran) (tick : ℕ) (times : List ℕ) where
  -- the word of the segment that ran
  abbrev pub ran_at : ℕ
  ran_at = first_of w ran.job + ran.segment

  abbrev pub grown : ℕ
  grown = min (get_or times ran_at 0 + (tick - ran.since)) 4294967295

  pub credit_some : ran.segment < (set_of w).segments ran.job → credited w ran tick times ≡ set times ran_at grown
  unfolding credited
  credit_some h = rw (lt-ltb ran.segment ((set_of w).segments ran.job) h)

  pub credit_none : (set_of w).segments ran.job ≤ ran.segment → credited w ran tick times ≡ times
  unfolding credited
  credit_none h = rw (le-ltb ran.segment ((set_of w).segments ran.job) h)

  pub credit_length : length (credited w ran tick times) ≡ length times
  credit_length = split ran.segment ((set_of w).segments ran.job)
      (λ s. rw (credit_some s) (length-set times ran_at grown))
      (λ s. rw (credit_none s))
