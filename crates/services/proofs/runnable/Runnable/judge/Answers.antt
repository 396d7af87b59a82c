use Rattle.std.proofs.Common.{arith}
use Rattle.services.proofs.Verdicts.{judge_foreign, judge_done}
use Rattle.services.proofs.runnable.Runnable.judge.Goals as goal

pub returns-then-not-replays_to : goal.returns-then-not-replays_to
returns-then-not-replays_to c =
    let n = c.if-not-replays_to.true in
    let no = c.replays_to.ensures.1 in
    judge_foreign c.args.self.now _ _ c.times-told.ensures _ (omega (arith, c.if-times-count.false, c.total_segments-count.ensures)) (λ R. let y = no R in cc)

pub returns : goal.returns
returns c =
    judge_done c.args.self.now _ _ c.times-told.ensures _ (omega (arith, c.if-times-count.false, c.total_segments-count.ensures)) _ _ c.total_segments-count.ensures
    (c.replays_to.ensures.0 c.if-not-replays_to.false) c.copy_from_slice.ensures.after
