use Rattle.std.proofs.Common.{arith}
use Rattle.table.proofs.Sound.{sound_outcome}
use Rattle.services.proofs.Opening.{refused_read, late_read, ready_read}
use Rattle.services.proofs.open.open.Goals as goal

pub returns-in_err-table : goal.returns-in_err-table
returns-in_err-table c = refused_read _ _ c.in_err-table.ensures _ c.from_residual.ensures.1

pub load-set-requires : goal.load-set-requires
load-set-requires c = sound_outcome _ _ c.in_ok-table.ensures

pub returns-then-frame-last_end : goal.returns-then-frame-last_end
returns-then-frame-last_end c = late_read _ _ c.in_ok-table.ensures c.load-set.result c.load-set.ensures (omega (arith, c.if-frame-last_end.true, c.frame.ensures, c.last_end.ensures))

pub returns : goal.returns
returns c = ready_read _ _ c.in_ok-table.ensures c.load-set.result c.load-set.ensures (omega (arith, c.if-frame-last_end.false, c.frame.ensures, c.last_end.ensures))
