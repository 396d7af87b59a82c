use Rattle.std.proofs.Common.{◌≡◌, get_or}
use Rattle.kernel.specs.Jobs.{largest}
use Rattle.kernel.proofs.state.top.Given as goal

abbrev pub invariant-loop-k : goal.invariant-loop-k
invariant-loop-k l = l.best ≡ largest (λ i. get_or l.key i 0) l.k-index
