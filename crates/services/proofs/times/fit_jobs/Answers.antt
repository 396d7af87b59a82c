use Rattle.std.proofs.Common.{ℕ, arith, rules, refl, tests}
use Rattle.std.proofs.lemmas.Iterator.{cases_from_all, YieldsList-from_range}
use Rattle.kernel.specs.Held.{set_of}
use Rattle.services.specs.Times.{FitJob}
use Rattle.services.proofs.All.{all_below}
use Rattle.services.proofs.times.fit_jobs.Goals as goal

pub returns : goal.returns
returns c =
    let P = λ (i : ℕ). FitJob c.args.set.now.jobs c.args.times.now i in
    all_below (set_of c.args.set.now.jobs).jobs P _
    (cases_from_all _ _ _ P (λ i. P i → ⊥) c.all.ensures.ran (YieldsList-from_range 0 c.jobs.result _ refl (omega (arith, c.jobs.ensures))) (λ x q k. search (rules, tests)) (λ x q k. search (rules, tests)))
