use Rattle.std.proofs.Common.{◌≡◌, get_or, cond}
use Rattle.kernel.specs.Jobs.{holds, largest}
use Rattle.jobset.proofs.ceilings.highest.Given as goal

abbrev pub invariant-loop-number : goal.invariant-loop-number
invariant-loop-number l = l.most ≡ largest (λ lock. cond (holds l.held lock) (get_or l.ceilings lock 0) 0) l.number
