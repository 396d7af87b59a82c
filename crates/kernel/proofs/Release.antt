-- The loop that releases the jobs of a tick.
use Rattle.kernel.specs.declared.jobs.Jobs.{Jobs}
use Rattle.std.proofs.Common.{ℕ, suc, ◌-◌, ◌<◌, arith, ◌≡◌, refl, sym, ◌∙◌, ap, true, ltb, ltb-true}
use Rattle.kernel.specs.Held.{set_of}
use Rattle.kernel.specs.Code.{State, release_step, ended, releases, released_after, Releasing}
use Rattle.kernel.specs.Laws.Tests.{both_true, below}

pub none_released : (w : Jobs) (tick : ℕ) (s : State) → Releasing w tick s s
unfolding released_after
none_released w tick s = record { steps = 0; after = refl; all = λ i h. absurd (omega arith) }

pub one_released : (w : Jobs) (tick : ℕ) (s r : State) → Releasing w tick s r → releases (set_of w) tick r ≡ true → Releasing w tick s (release_step w r)
unfolding released_after
one_released w tick s r R h = record {
  steps = suc R.steps;
  after = ap (release_step w) R.after;
  all = below (λ i. releases (set_of w) tick (released_after w i s) ≡ true) R.steps R.all (ap (releases (set_of w) tick) (sym R.after) ∙ h);
}

-- a job that is released is one of the set's
pub releases_job : (w : Jobs) (tick : ℕ) (s : State) → releases (set_of w) tick s ≡ true → s.released < (set_of w).jobs
releases_job w tick s h = ltb-true s.released (set_of w).jobs (both_true (ltb s.released (set_of w).jobs) _ h).0

-- a segment that ends is of one of the set's jobs
pub ended_job : (w : Jobs) (s : State) → ended (set_of w) s ≡ true → s.running < (set_of w).jobs
ended_job w s h = ltb-true s.running (set_of w).jobs (both_true (ltb s.running (set_of w).jobs) _ h).0

-- fewer are left then
pub step_less : (w : Jobs) (s r : State) → r ≡ release_step w s → s.released < (set_of w).jobs → (set_of w).jobs - r.released < (set_of w).jobs - s.released
unfolding release_step
step_less w s r e h = omega (arith, ap (λ (x : State). x.released) e)
