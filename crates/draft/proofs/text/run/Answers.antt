use Rattle.std.proofs.Common.{rules, ◌∙◌}
use Rattle.std.proofs.lemmas.Iterator.{YieldsList-from_slice}
use Rattle.std.proofs.lemmas.Iterator.Search.{YieldsList-from_take_while}
use Rattle.std.proofs.lemmas.Iterator.Consumers.{count_from_yields_List}
use Rattle.draft.specs.Laws.Runs.{run_is}
use Rattle.draft.proofs.text.run.Goals as goal

pub returns-clause-value : goal.returns-clause-value
returns-clause-value g c = λ p h.
    count_from_yields_List c.take_while.result _ c.count.ensures.ran
    (YieldsList-from_take_while _ p (YieldsList-from_slice c.args.bytes.now (rw c.take_while.ensures.source c.iter.ensures.rest)) c.take_while.ensures.closure c.take_while.ensures.done (λ x b q k. search (rules, h)))
    ∙ run_is p c.args.bytes.now
