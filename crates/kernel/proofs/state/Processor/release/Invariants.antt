use Rattle.std.proofs.Common.{◌-◌}
use Rattle.kernel.specs.Held.{set_of}
use Rattle.kernel.specs.Code.{state_of, Releasing}
use Rattle.kernel.proofs.state.Processor.release.Given as goal

abbrev pub invariant-loop-self : goal.invariant-loop-self
invariant-loop-self l = Releasing l.set.jobs l.tick (state_of l.initial.standings l.initial.self) (state_of l.standings l.self)

abbrev pub decreases-loop-self : goal.decreases-loop-self
decreases-loop-self l = (set_of l.set.jobs).jobs - l.self.released
