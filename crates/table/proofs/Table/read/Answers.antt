use Rattle.table.proofs.Verdict.{cut_off}
use Rattle.table.proofs.Table.read.Goals as goal

pub returns-in_default : goal.returns-in_default
returns-in_default c = rw c.at-in_default.ensures (cut_off c.loop-at.invariant c.loop-at-test.true c.if-bytes-gt-BYTES.false c.in_default.ensures)
