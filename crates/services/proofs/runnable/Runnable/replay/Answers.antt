use Rattle.std.proofs.Common.{◌∙◌}
use Rattle.services.proofs.Ran.{replay_done}
use Rattle.services.proofs.runnable.Runnable.replay.Goals as goal

pub returns : goal.returns
returns c =
    let F = c.fit.ensures.0 c.if-not-fit.false in
    replay_done _ _ _ _ _ F (c.words-words.ensures ∙ c.of-ran.ensures) c.if-log-words.false c.copy_from_slice.ensures.after
