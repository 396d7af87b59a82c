use Rattle.draft.specs.Laws.Knowing.{known_few, naming_step, naming_full, naming_over}
use Rattle.draft.proofs.locks.Names.held_by.Goals as goal

pub returns-in_err-held : goal.returns-in_err-held
returns-in_err-held c = rw c.from_residual.ensures (naming_full _ _ _ _ _ _ _ c.loop-name.invariant c.in-Some.ensures.0 c.in_err-held.ensures)

pub loop-name-preserved : goal.loop-name-preserved
loop-name-preserved c = naming_step _ _ _ _ _ _ _ c.loop-name.invariant c.in-Some.ensures.0 _ _ c.in_ok-held.ensures.0 c.in_ok-held.ensures.1 c.in_ok-held.ensures.2

pub returns : goal.returns
returns c = naming_over _ _ _ _ _ c.loop-name.invariant c.in_default.ensures (known_few c.loop-name.self)
