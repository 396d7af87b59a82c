use Rattle.std.proofs.Common.{◌≡◌}
use Rattle.services.specs.Told.{heard}
use Rattle.services.proofs.told.times.Given as goal

abbrev pub invariant-loop-tick : goal.invariant-loop-tick
invariant-loop-tick l = heard l.set.jobs l.log (l.tick-index) ≡ record { times = l.times; ran = l.ran }
