use Rattle.walk.specs.Laws.Keyed.{follows}
use Rattle.walk.proofs.choice.after.Goals as goal

pub returns-clause-follows : goal.returns-clause-follows
returns-clause-follows c =
    follows c.args.set.now.jobs c.args.state.now c.args.set.now.loaded _ _ _ _ c.requires.first
    (rw c.jobs.ensures at c.if-jobs-first.false) c.reached.ensures c.top-best.ensures
