use Rattle.std.proofs.Common.{◌≤◌}
use Rattle.walk.specs.Laws.Keyed.{NoneAbove}
use Rattle.walk.proofs.choice.above.Given as goal

abbrev pub invariant-loop-i : goal.invariant-loop-i
invariant-loop-i l = (l.out ≤ l.i) × NoneAbove l.state l.out l.w l.i
