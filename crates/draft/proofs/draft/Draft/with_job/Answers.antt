use Rattle.std.proofs.Common.{ap, refl, rules, ◌+◌, ◌<◌, ◌≡◌}
use Rattle.draft.specs.Drafts.{size}
use Rattle.std.proofs.lemmas.Result.{err_from_is_err_and}
use Rattle.draft.specs.Cause.{cause_number}
use Rattle.draft.specs.Laws.Drafting.{job_early, job_bare, job_long}
use Rattle.draft.specs.Laws.ReadBack.{record_size}
use Rattle.table.specs.declared.records.Record.TheVariants.{Job}
use Rattle.draft.specs.Laws.Pushing.{job_fits}
use Rattle.draft.proofs.draft.Draft.with_job.Goals as goal

pub returns-then-is_empty : goal.returns-then-is_empty
returns-then-is_empty c = λ x h. let none : size c.args.self.now ≡ 0 = search rules in rw (job_early c.args.self.now x h _ _ _ none, c.refused.ensures) (refl, refl)

pub returns-in_err-no_bare_job : goal.returns-in_err-no_bare_job
returns-in_err-no_bare_job c = λ x h.
    let some : size c.args.self.now ≡ 0 → ⊥ = search rules in
    let p = err_from_is_err_and c.from_residual.result c.from_residual.ensures.1 in
    rw (p.1, p.2, job_bare c.args.self.now x h _ _ _ _ some c.in_err-no_bare_job.ensures.1) (ap cause_number c.in_err-no_bare_job.ensures.0, refl)

pub returns-in_err-push : goal.returns-in_err-push
returns-in_err-push c = λ x h.
    let some : size c.args.self.now ≡ 0 → ⊥ = search rules in
    let p = err_from_is_err_and c.from_residual-in_err-push.result c.from_residual-in_err-push.ensures.1 in
    let long : 4096 < size c.args.self.now + 8 = rw (c.job.ensures, record_size (Job c.args.release c.args.priority 0)) at c.in_err-push.ensures.1 in
    rw (p.1, p.2, c.in_err-push.ensures.0, job_long c.args.self.now x h _ _ _ some c.in_ok-no_bare_job.ensures long) (refl, refl)

pub returns : goal.returns
returns c = λ x h. let some : size c.args.self.now ≡ 0 → ⊥ = search rules in job_fits c.args.self.now x h _ _ _ c.push.new.self _ _ some c.in_ok-no_bare_job.ensures c.job.ensures c.in_ok-push.ensures
    (record { lines = refl; line = refl; job = refl; names = refl }) refl c.len-at.ensures.value refl refl
