use Rattle.std.proofs.Common.{◌≡◌}
use Rattle.kernel.specs.Jobs.{sum}
use Rattle.kernel.specs.Held.{set_of}
use Rattle.services.proofs.ending.longest_work.Given as goal

abbrev pub invariant-loop-k : goal.invariant-loop-k
invariant-loop-k l = l.total ≡ sum ((set_of l.set.jobs).longest l.i) l.k
