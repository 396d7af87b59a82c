-- Each call is of a smaller measure: 3 * depth + 2 for hang, + 1 for grow, + 0 for leave and cut_off.
use Rattle.std.proofs.Common.{◌+◌, ◌-◌, ◌*◌}
use Rattle.walk.proofs.Turn.{Turn}
use Rattle.walk.proofs.descent.Walk.+descent.Given as goal

abbrev pub decreases-cut_off : goal.decreases-cut_off
decreases-cut_off l = 3 * l.depth

abbrev pub decreases-grow : goal.decreases-grow
decreases-grow l = 3 * l.depth + 1

abbrev pub decreases-hang : goal.decreases-hang
decreases-hang l = 3 * l.depth + 2

abbrev pub decreases-leave : goal.decreases-leave
decreases-leave l = 3 * l.depth

abbrev pub invariant-leave-loop-t : goal.invariant-leave-loop-t
invariant-leave-loop-t l = Turn l.initial.self l.kind l.early l.latest l.parent l.depth l.known l.self l.t

abbrev pub decreases-leave-loop-t : goal.decreases-leave-loop-t
decreases-leave-loop-t l = l.latest + 1 - l.t
