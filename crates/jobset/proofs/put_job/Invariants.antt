use Rattle.std.proofs.Common.{◌≡◌, ◌-◌}
use Rattle.jobset.proofs.Rows.{partly}
use Rattle.jobset.proofs.put_job.Given as goal

abbrev pub invariant-loop-number : goal.invariant-loop-number
invariant-loop-number l = l.jobs ≡ partly l.table l.i (l.number - l.job.first)
