use Rattle.std.proofs.Common.{refl, rules, ◌≡◌}
use Rattle.draft.specs.Drafts.{size}
use Rattle.draft.specs.Laws.Drafting.{frame_again}
use Rattle.draft.specs.Laws.Pushing.{frame_told}
use Rattle.draft.proofs.draft.Draft.with_frame.Goals as goal

pub returns-then-not-is_empty : goal.returns-then-not-is_empty
returns-then-not-is_empty c = λ x h. let some : size c.args.self.now ≡ 0 → ⊥ = search rules in rw (frame_again c.args.self.now x h _ _ some, c.refused.ensures) (refl, refl)

pub returns : goal.returns
returns c = λ x h. let none : size c.args.self.now ≡ 0 = search rules in frame_told c.args.self.now x h _ _ _ _ none c.frame.ensures c.push.ensures
