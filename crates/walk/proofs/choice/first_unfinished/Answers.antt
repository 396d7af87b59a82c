use Rattle.std.proofs.Common.{◌≡◌, ◌<◌, rules}
use borrow.Author.Tests.{tests}
use Rattle.std.proofs.lemmas.Iterator.{first_from_Range}
use Rattle.walk.specs.State.{key_at}
use Rattle.walk.specs.Laws.Keyed.{first_found}
use Rattle.walk.proofs.choice.first_unfinished.Goals as goal

pub returns : goal.returns
returns c =
    let s = c.args.state.now in
    let found = first_from_Range _ _ _ c.find.result (λ i. 0 < key_at s i) (λ i. key_at s i ≡ 0) c.find.ensures.ran
    (λ x q k. search (rules, tests)) (λ x q k. search (rules, tests)) in
    rw c.unwrap_or.ensures (first_found c.find.result c.requires c.jobs-n.ensures found)
