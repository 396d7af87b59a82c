use Rattle.services.proofs.Grew.{walk_draws}
use Rattle.services.proofs.runnable.Runnable.tree.Goals as goal

pub returns : goal.returns
returns c = rw c.ok_or.ensures.value (walk_draws c.args.self.now _ _ _ c.tree.ensures)
