use Rattle.std.proofs.Common.{◌≡◌}
use Rattle.kernel.specs.Code.{state_of}
use Rattle.kernel.proofs.Turn.{Loop}
use Rattle.kernel.proofs.run.Given as goal

abbrev pub invariant-loop-tick : goal.invariant-loop-tick
invariant-loop-tick l = record {
  loop : Loop l.set.jobs l.times l.fn.log l.log.words.now (state_of l.standings l.processor) l.log.count l.tick;
  lent : l.log.words.ghost_name ≡ l.initial.log.words.ghost_name;
}
