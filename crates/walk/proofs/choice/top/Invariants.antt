use Rattle.std.proofs.Common.{◌+◌, ◌≡◌}
use Rattle.kernel.specs.Jobs.{largest}
use Rattle.walk.specs.State.{key_at}
use Rattle.walk.proofs.choice.top.Given as goal

abbrev pub invariant-loop-job : goal.invariant-loop-job
invariant-loop-job l = l.best ≡ largest (key_at l.state) (l.first + l.job-index)
