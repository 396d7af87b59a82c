use Rattle.std.proofs.Common.{arith}
use Rattle.jobset.proofs.Laid.{laid}
use Rattle.jobset.proofs.load.Goals as goal

pub invariant_of-result : goal.invariant_of-result
invariant_of-result c = record { loaded = (laid _ c.loop-i.i _ c.requires (omega arith) c.loop-i.invariant).loaded }

pub returns : goal.returns
returns c = laid _ c.loop-i.i _ c.requires (omega arith) c.loop-i.invariant
