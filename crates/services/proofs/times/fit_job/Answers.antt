use Rattle.std.proofs.Common.{ℕ, arith, rules, refl, tests}
use Rattle.std.proofs.lemmas.Iterator.{cases_from_all, YieldsList-from_range}
use Rattle.kernel.specs.Held.{set_of}
use Rattle.services.specs.Times.{FitAt}
use Rattle.services.proofs.All.{all_below}
use Rattle.services.proofs.times.fit_job.Goals as goal

pub returns : goal.returns
returns c =
    let P = λ (k : ℕ). FitAt c.args.set.now.jobs c.args.times.now c.args.i k in
    all_below ((set_of c.args.set.now.jobs).segments c.args.i) P _
    (cases_from_all _ _ _ P (λ i. P i → ⊥) c.all.ensures.ran (YieldsList-from_range 0 c.segments.result _ refl (omega (arith, c.segments.ensures))) (λ x q k. search (rules, tests)) (λ x q k. search (rules, tests)))
