use Rattle.std.proofs.Common.{rules, sym}
use Rattle.walk.specs.Laws.Root.{root_passed}
use Rattle.walk.proofs.pass.Goals as goal

pub returns-clause-passed : goal.returns-clause-passed
returns-clause-passed c =
    let same = sym c.hang.ensures.kept.same_words in
    root_passed c.args.set c.fresh.result c.fresh.ensures c.first-x.result c.first-x.ensures _ _ c.hang.new.self c.args.cap c.enough.result _ _
    (search rules) (search rules) c.enough.ensures c.hang.ensures
