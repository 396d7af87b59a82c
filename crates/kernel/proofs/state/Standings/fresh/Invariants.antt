use Rattle.kernel.proofs.Filled.{Filled}
use Rattle.kernel.proofs.state.Standings.fresh.Given as goal

abbrev pub invariant-loop-i : goal.invariant-loop-i
invariant-loop-i l = Filled l.set.jobs l.times l.standing-items l.i
