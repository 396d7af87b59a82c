use Rattle.walk.specs.Laws.Whole.{walked_whole}
use Rattle.walk.proofs.tree.Goals as goal

pub returns : goal.returns
returns c =
    walked_whole c.args.set.now.jobs c.args.set.now.loaded c.args.words.now c.room_of-room.result c.room_of-room.ensures _ _ c.pass-seen.result
    c.pass-seen.ensures.passed c.if-room-seen.false _ c.pass.result c.pass.ensures.passed
