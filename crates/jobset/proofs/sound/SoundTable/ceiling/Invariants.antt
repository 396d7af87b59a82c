use Rattle.std.proofs.Common.{◌≡◌, ◌<◌}
use Rattle.kernel.specs.Jobs.{largest, user_base}
use Rattle.jobset.proofs.sound.SoundTable.ceiling.Given as goal

abbrev pub invariant-loop-i : goal.invariant-loop-i
invariant-loop-i l = (l.most < 256) × (l.most ≡ largest (user_base l.self.table.now l.lock.number) l.i)
