use Rattle.std.proofs.Common.{refl, rules, ◌≡◌}
use Rattle.draft.specs.Drafts.{size}
use Rattle.draft.specs.Laws.Reading.{ended_none, ended_told}
use Rattle.draft.proofs.draft.Draft.end.Goals as goal

pub returns-then-is_empty : goal.returns-then-is_empty
returns-then-is_empty c = λ x h. let none : size c.args.self.now ≡ 0 = search rules in rw (ended_none c.args.self.now x h none, c.refused.ensures) (refl, h.line)

pub returns : goal.returns
returns c = λ x h. let some : size c.args.self.now ≡ 0 → ⊥ = search rules in ended_told c.args.self.now x h some c.no_bare_job.result c.no_bare_job.ensures
