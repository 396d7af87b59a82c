use Rattle.std.proofs.Common.{◌≡◌, ◌+◌, ◌*◌, ◌≤◌}
use Rattle.kernel.specs.Held.{set_of}
use Rattle.kernel.specs.Laws.Clock.{clock}
use Rattle.kernel.specs.Laws.Ending.{work}
use Rattle.services.proofs.ending.last_end.Given as goal

abbrev pub invariant-loop-i : goal.invariant-loop-i
invariant-loop-i l = (l.end ≡ clock (set_of l.set.jobs).release (work (set_of l.set.jobs) (set_of l.set.jobs).longest) 0 l.i) × (l.end ≤ 1000000 + 64000000 * l.i)
