use Rattle.std.proofs.Common.{◌≡◌}
use Rattle.jobset.specs.Load.{held_first}
use Rattle.jobset.proofs.load.Given as goal

abbrev pub invariant-loop-i : goal.invariant-loop-i
invariant-loop-i l = l.jobs ≡ held_first l.table l.i
