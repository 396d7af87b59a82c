use Rattle.std.proofs.Common.{ℕ, ◌<◌, ◌≤◌, rules}
use borrow.Author.Tests.{tests}
use Rattle.std.proofs.lemmas.Iterator.{first_from_Range}
use Rattle.kernel.specs.Held.{set_of}
use Rattle.walk.specs.Laws.Keyed.{released_found}
use Rattle.walk.proofs.choice.released.Goals as goal

pub returns : goal.returns
returns c =
    let release : ℕ → ℕ = (set_of c.args.set.now.jobs).release in
    let found = first_from_Range _ _ _ c.find.result (λ i. c.args.t < release i) (λ i. release i ≤ c.args.t) c.find.ensures.ran
    (λ x q k. search (rules, tests)) (λ x q k. search (rules, tests)) in
    rw c.unwrap_or.ensures (released_found c.find.result c.args.set.now.loaded c.requires c.jobs-n.ensures found)
