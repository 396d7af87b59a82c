use Rattle.std.proofs.Common.{◌+◌, ◌<◌, arith, ◌≡◌, length-set, ◌∙◌}
use Rattle.kernel.specs.Held.{set_of}
use Rattle.walk.specs.State.{new_at}
use Rattle.walk.specs.Laws.Standing.{standing_cases}
use Rattle.walk.proofs.state.fresh.Goals as goal

pub loop-i-preserved : goal.loop-i-preserved
loop-i-preserved c =
    let i = c.loop-i.i in
    let inv = c.loop-i.invariant in
    record {
      size = length-set c.loop-i.job-items i c.new.result ∙ inv.size;
      jobs = standing_cases c.loop-i.job-items i c.new.result (omega arith) (λ m x. m < i + 1 → x ≡ new_at (set_of c.args.set.now.jobs) m)
          (λ z. c.new.ensures) (λ m n (z : m < i + 1). inv.jobs m (omega arith));
    }
