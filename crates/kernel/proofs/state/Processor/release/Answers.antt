use Rattle.std.proofs.Common.{sym, ◌∙◌}
use Rattle.kernel.specs.Code.{state_of}
use Rattle.kernel.proofs.Release.{releases_job, step_less}
use Rattle.kernel.proofs.state.Processor.release.Goals as goal

pub loop-self-smaller : goal.loop-self-smaller
loop-self-smaller c =
    let s = state_of c.loop-self.standings c.loop-self.self in
    step_less c.args.set.now.jobs s (state_of c.release_one.new.standings c.release_one.new.self) c.release_one.ensures
    (releases_job c.args.set.now.jobs c.args.tick s (sym c.releases.ensures ∙ c.loop-self-test.true))
