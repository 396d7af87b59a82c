use Rattle.std.proofs.Common.{arith, refl, ◌≡◌}
use Rattle.std.proofs.lemmas.Bool.Decides.{nat_tests}
use Rattle.draft.specs.Text.{next_line, with_line}
use Rattle.draft.specs.Known.{known}
use Rattle.draft.specs.Laws.Reading.{line_told, reads_fault}
use Rattle.draft.proofs.draft.Draft.read.Goals as goal

pub returns-in-Ok-Nothing : goal.returns-in-Ok-Nothing
unfolding with_line
returns-in-Ok-Nothing c = λ x h.
    let told = line_told c.args.self.now x h _ c.saturating_add-self.result _ _ (grind (arith, nat_tests)) c.in-Ok-Nothing.ensures in
    rw (told.0, c.in-Ok-Nothing.field-0-is) (told.1 _ (record { made = refl; lines = refl; line = refl; job = refl }) refl)

pub returns-in-Ok-Frame : goal.returns-in-Ok-Frame
unfolding with_line
returns-in-Ok-Frame c = λ x h.
    let told = line_told c.args.self.now x h _ c.saturating_add-self.result _ _ (grind (arith, nat_tests)) c.in-Ok-Frame.ensures in
    rw (told.0, c.in-Ok-Frame.field-0-is) (c.with_frame.ensures _ (told.1 _ (record { made = refl; lines = refl; line = refl; job = refl }) refl))

pub returns-in-Ok-Job : goal.returns-in-Ok-Job
unfolding with_line
returns-in-Ok-Job c = λ x h.
    let told = line_told c.args.self.now x h _ c.saturating_add-self.result _ _ (grind (arith, nat_tests)) c.in-Ok-Job.ensures in
    rw (told.0, c.in-Ok-Job.field-0-is) (c.with_job.ensures _ (told.1 _ (record { made = refl; lines = refl; line = refl; job = refl }) refl))

pub returns-in-Ok-Segment : goal.returns-in-Ok-Segment
unfolding with_line
returns-in-Ok-Segment c = λ x h.
    let told = line_told c.args.self.now x h _ c.saturating_add-self.result _ _ (grind (arith, nat_tests)) c.in-Ok-Segment.ensures in
    rw (told.0, c.in-Ok-Segment.field-0-is) (c.with_segment.ensures _ (told.1 _ (record { made = refl; lines = refl; line = refl; job = refl }) refl))

pub returns-in-Err : goal.returns-in-Err
returns-in-Err c = λ x h.
    let next : c.saturating_add-self.result ≡ next_line c.args.self.now.line = grind (arith, nat_tests) in
    rw (← next, reads_fault c.args.self.now x h c.saturating_add-self.result _ (known c.read_line.new.names) _ c.in-Err.ensures, c.refused.ensures) (refl, refl)
