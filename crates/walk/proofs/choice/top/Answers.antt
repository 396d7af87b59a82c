use Rattle.std.proofs.Common.{◌+◌, ◌-◌, ◌<◌, arith, ◌≡◌, ap, ◌∙◌, length-take-le, get_or-take, get_or-drop, drop}
use Rattle.kernel.specs.Laws.Largest.{largest_more}
use Rattle.walk.specs.State.{no_standing, key_at}
use Rattle.walk.specs.declared.state.Standing.{Standing}
use Rattle.walk.proofs.choice.top.Goals as goal

pub loop-job-preserved : goal.loop-job-preserved
loop-job-preserved c =
    let s = c.args.state.now in
    let a = c.args.first in
    let n = c.args.out - a in
    let i = c.loop-job.job-index in
    let inside : i < n = omega (arith, c.loop-job-test.true, length-take-le n (drop a s)) in
    let after : a + (i + 1) ≡ a + i + 1 = omega arith in
    rw after (largest_more (key_at s) (a + i) _ _ _ c.loop-job.invariant
    (ap (λ (x : Standing). x.key) (get_or-take n (drop a s) i no_standing inside ∙ get_or-drop a s i no_standing)) c.max-best.ensures)
