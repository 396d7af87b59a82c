use Prim.Native.Nat.{◌-◌}
use lib.ListN.{length}
use Rattle.table.proofs.Walk.{Went}
use Rattle.table.proofs.Table.read.Given as goal

abbrev pub invariant-loop-at : goal.invariant-loop-at
invariant-loop-at l = Went l.bytes l.table l.scan l.place l.at

abbrev pub decreases-loop-at : goal.decreases-loop-at
decreases-loop-at l = length l.bytes - l.at
