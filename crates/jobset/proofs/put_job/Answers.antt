use Rattle.std.proofs.Common.{arith, ◌∙◌}
use Rattle.jobset.proofs.Locks.{dispatched_by}
use Rattle.jobset.proofs.Rows.{job_more, segment_more, segments_all}
use Rattle.jobset.proofs.put_job.Goals as goal

pub loop-number-init : goal.loop-number-init
loop-number-init c = job_more _ c.args.i _ _ _ c.args.jobs.now c.requires.2 c.from.ensures c.from-2.ensures (omega arith)

pub loop-number-preserved : goal.loop-number-preserved
loop-number-preserved c =
    segment_more _ c.args.i c.loop-number.number _ _ _ _ c.args.sound.now.sound c.requires.0 c.loop-number.invariant (omega arith) (omega arith)
    (c.priority.ensures ∙ dispatched_by _ _ c.args.i c.loop-number.number _ c.requires.1 (omega arith))

pub returns : goal.returns
returns c = segments_all _ c.args.i _ _ c.loop-number.invariant (omega arith)
