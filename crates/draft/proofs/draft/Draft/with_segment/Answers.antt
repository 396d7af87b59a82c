use Rattle.std.proofs.Common.{refl, rules, ◌+◌, ◌<◌, ◌≡◌}
use Rattle.draft.specs.Drafts.{size}
use Rattle.std.proofs.lemmas.Result.{err_from_is_err_and}
use Rattle.draft.specs.Laws.Drafting.{segment_early, segment_jobless, segment_many, segment_long}
use Rattle.draft.specs.Laws.ReadBack.{record_size}
use Rattle.draft.specs.Laws.Records.{store_lent}
use Rattle.table.specs.Records.{size_of}
use Rattle.table.specs.declared.records.Record.{Record}
use Rattle.table.specs.declared.records.Record.TheVariants.{Segment}
use Rattle.draft.specs.Laws.Pushing.{segment_fits}
use Rattle.draft.proofs.draft.Draft.with_segment.Goals as goal

pub returns-then-is_empty : goal.returns-then-is_empty
returns-then-is_empty c = λ x h. let none : size c.args.self.now ≡ 0 = search rules in rw (segment_early c.args.self.now x h _ _ none, c.refused.ensures) (refl, refl)

pub returns-in_default : goal.returns-in_default
returns-in_default c = λ x h. let some : size c.args.self.now ≡ 0 → ⊥ = search rules in rw (segment_jobless c.args.self.now x h _ _ some c.in_default.is, c.refused-in_default.ensures) (refl, refl)

pub returns-then-job : goal.returns-then-job
returns-then-job c = λ x h. let some : size c.args.self.now ≡ 0 → ⊥ = search rules in rw (segment_many c.args.self.now x h _ _ some c.in-Some.job c.in-Some.is c.if-job.true, c.refused-then-job.ensures) (refl, refl)

pub returns-in_err-push : goal.returns-in_err-push
returns-in_err-push c = λ x h.
    let some : size c.args.self.now ≡ 0 → ⊥ = search rules in
    let r : Record = Segment c.args.shortest c.args.longest c.args.held in
    let p = err_from_is_err_and c.from_residual.result c.from_residual.ensures.1 in
    let long : 4096 < size c.args.self.now + size_of r = rw (c.segment.ensures, record_size r) at c.in_err-push.ensures.1 in
    rw (p.1, p.2, c.in_err-push.ensures.0, segment_long c.args.self.now x h _ r some c.in-Some.job c.in-Some.is c.if-job.false long) (refl, refl)

pub returns : goal.returns
returns c = λ x h. let some : size c.args.self.now ≡ 0 → ⊥ = search rules in segment_fits c.args.self.now x h _ some c.in-Some.job c.in-Some.is _ c.push.new.self _ _ c.if-job.false c.segment.ensures c.in_ok-push.ensures
    (record { lines = refl; line = refl; job = refl; names = refl }) (store_lent _ _ _ _ c.deref_mut.ensures.value) refl refl refl
