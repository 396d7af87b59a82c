-- One record more in a draft.
use Rattle.std.specs.Prelude.{ℕ, ◌+◌, ◌<◌, ◌≤◌, ◌≡◌, refl, false, get_or, set, Option, Some, None, Result, Ok, Err, MatchResult}
use Rattle.std.proofs.Common.{arith, ◌∙◌, length-set, length-append, le-ltb}
use Rattle.std.proofs.Math.Path.{sym, ap}
use mathlib.Core.List.{List, [], ◌∷◌, ◌++◌, append_assoc}
use Rattle.std.proofs.Math.ListN.{length}
use Rattle.draft.specs.Bytes.{record_bytes}
use Rattle.draft.specs.Text.{Lined, no_job, Draw, job_records, records_of, lined_bytes, size_so_far, empty, with_frame, with_job, with_segment}
use Rattle.draft.specs.Packing.{line_at}
use Rattle.draft.specs.Drafts.{LastIs, Holds, Told, Pushed, size}
use Rattle.draft.specs.LastJob.{bare_line}
use Rattle.draft.specs.Laws.Runs.{never}
use Rattle.draft.specs.Laws.Records.{size_none, line_more, line_counted, bytes_more, bytes_counted}
use Rattle.draft.specs.Laws.ReadBack.{size_pos, record_size}
use Rattle.draft.specs.Laws.Drafting.{some_more, not_begun, is_begun, job_goes, Stood, last, segment_is, few}
use Rattle.draft.specs.declared.cause.Cause.TheVariants.{TooLong}
use Rattle.draft.specs.declared.cause.Refused.{Refused}
use Rattle.draft.specs.declared.draft.LastJob.{LastJob}
use Rattle.draft.specs.declared.draft.Draft.{Draft}
use Rattle.table.specs.Records.{size_of}
use Rattle.table.specs.declared.records.Record.{Record}
use Rattle.table.specs.declared.records.Record.TheVariants.{Frame, Job}

-- no last job, whatever stands before it
none_last : (job : Option LastJob) (done after : List Lined) → LastIs job done no_job → LastIs job after no_job
none_last None done after l = l
none_last (Some job) done after l = absurd l

-- a draft after it got another last job
pub record Relasted (d after : Draft) (last : LastJob) : Type 0 where
  pub lines : after.lines ≡ d.lines
  pub line : after.line ≡ d.line
  pub job : after.job ≡ Some last
  pub names : after.names ≡ d.names

module _ (d : Draft) (x : Draw) (h : Holds d x) where
  pub frame_first : (f : ℕ) (d' : Draft) → size d ≡ 0 → Pushed d (record_bytes (Frame f)) d' → Holds d' (with_frame d.line f x)
  unfolding with_frame
  frame_first f d' e p =
      let none = not_begun d x h d.line e in
      let bytes : d.made.items ≡ lined_bytes [] = rw none.1 at h.bytes in
      rw none.0 (record {
        cause = h.cause;
        line = p.line ∙ h.line;
        bytes = p.made ∙ rw bytes (sym (bytes_more [] new));
        lines_room = rw p.lines (length-set d.lines (size d) d.line) ∙ h.lines_room;
        noted = λ k. rw p.lines (line_more d.lines [] new (size d) (e ∙ sym size_none) (omega (arith, h.lines_room)) (λ k. rw none.1 at (h.noted k)) k);
        begun = λ q. refl;
        last = rw p.job (none_last d.job x.done (new ∷ []) (rw (h.begun none.0) at h.last));
        names = rw p.names h.names;
        few = h.few;
      })
    where
      new : Lined
      new = record { line = d.line; what = Frame f }

  pub job_fits : (r p : ℕ) (bytes : List ℕ) (d' after : Draft) (job : LastJob) → (size d ≡ 0 → ⊥) → bare_line d.job ≡ None → bytes ≡ record_bytes (Job r p 0) → Pushed d bytes d'
      → Relasted d' after job → after.made ≡ d'.made → job.at ≡ size d → job.line ≡ d'.line → job.segments ≡ 0 → Holds after (with_job d.line r p x)
  job_fits r p bytes d' after job e b is pushed a m at line none =
      let q : Pushed d (record_bytes (Job r p 0)) d' = rw is at pushed in
      let place : size d ≡ size_so_far x = ap length h.bytes in
      rw (job_goes d x h d.line r p false e b (le-ltb 4096 (size_so_far x + 8) (omega (arith, q.fits, place, eight)))) (record {
        cause = h.cause;
        line = a.line ∙ q.line ∙ h.line;
        bytes = rw m (q.made ∙ rw h.bytes (sym (bytes_more (records_of x) new)));
        lines_room = rw (a.lines, q.lines) (length-set d.lines (size d) d.line) ∙ h.lines_room;
        noted = λ k. rw (a.lines, q.lines) (line_more d.lines (records_of x) new (size d) place (omega (arith, h.lines_room, q.fits, eight)) h.noted k);
        begun = λ w. never (empty (records_of x)) w (some_more x.done (job_records x.last) (is_begun d x h d.line e));
        last = rw a.job (at ∙ place, line ∙ q.line, none);
        names = rw (a.names, q.names) h.names;
        few = h.few;
      })
    where
      new : Lined
      new = record { line = d.line; what = Job r p 0 }

      eight : length (record_bytes (Job r p 0)) ≡ 8
      eight = record_size (Job r p 0)

  module _ (r : Record) (e : size d ≡ 0 → ⊥) (job : LastJob) (j : d.job ≡ Some job) where
    abbrev new : Lined
    new = record { line = d.line; what = r }

    abbrev own_last : Stood d x h d.line job
    own_last = last d x h d.line r e job j

    -- the last job's own record, where it has so many segments
    abbrev own : ℕ → Lined
    own m = record { line = own_last.line; what = Job own_last.release own_last.priority m }

    -- the records before and after, the latter with the old count
    abbrev before : List Lined
    before = x.done ++ own (length own_last.segments) ∷ own_last.segments

    abbrev after : ℕ → List Lined
    after m = x.done ++ own m ∷ (own_last.segments ++ new ∷ [])

    regroup : before ++ new ∷ [] ≡ after (length own_last.segments)
    regroup = append_assoc x.done (own (length own_last.segments) ∷ own_last.segments) (new ∷ [])

    bytes_before : d.made.items ≡ lined_bytes before
    bytes_before = rw own_last.is at h.bytes

    bytes_after : lined_bytes before ++ record_bytes r ≡ lined_bytes (after (length own_last.segments))
    bytes_after = rw (← regroup) (sym (bytes_more before new))

    one_more : job.segments + 1 ≡ length (own_last.segments ++ new ∷ [])
    one_more = omega (arith, own_last.count, length-append own_last.segments (new ∷ []))

    noted_after : (m : ℕ) → size d + size_of r ≤ 4096 → (k : ℕ) → get_or (set d.lines (size d) d.line) k 0 ≡ line_at 0 k (after m) 0
    noted_after m f k =
        let then : get_or (set d.lines (size d) d.line) k 0 ≡ line_at 0 k (after (length own_last.segments)) 0
        = rw (← regroup)
        (line_more d.lines before new (size d) (ap length bytes_before) (omega (arith, h.lines_room, f, size_pos r)) (λ k. rw own_last.is at (h.noted k)) k) in
        then ∙ line_counted k x.done (own_last.segments ++ new ∷ []) own_last.line own_last.release own_last.priority (length own_last.segments) m

    pub segment_fits : (bytes : List ℕ) (d' after : Draft) (job' : LastJob) → (job.segments ≡ 255 → ⊥) → bytes ≡ record_bytes r → Pushed d bytes d'
        → Relasted d' after job' → after.made.items ≡ set d'.made.items (job.at + 7) job'.segments → job'.at ≡ job.at → job'.line ≡ job.line → job'.segments ≡ job.segments + 1
        → Holds after (with_segment d.line r x)
    segment_fits bytes d' after job' c is pushed a m at line count =
        let p : Pushed d (record_bytes r) d' = rw is at pushed in
        let bytes_fit : size d + size_of r ≤ 4096 = rw (record_size r) at p.fits in
        let room : size_so_far x + size_of r ≤ 4096 = omega (arith, bytes_fit, ap length h.bytes) in
        let count_is : job'.segments ≡ length (own_last.segments ++ new ∷ []) = count ∙ one_more in
        rw (segment_is d x h d.line r e job j false false (few d x h d.line r e job j c) (le-ltb 4096 (size_so_far x + size_of r) room)) (record {
          cause = h.cause;
          line = a.line ∙ p.line ∙ h.line;
          bytes = m
              ∙ ap (λ (b : List ℕ). set b (job.at + 7) job'.segments) (p.made ∙ ap (λ (b : List ℕ). b ++ record_bytes r) bytes_before ∙ bytes_after)
              ∙ rw count_is
              (bytes_counted x.done (own_last.segments ++ new ∷ []) own_last.line own_last.release own_last.priority (length own_last.segments)
              (length (own_last.segments ++ new ∷ [])) job.at own_last.place);
          lines_room = rw (a.lines, p.lines) (length-set d.lines (size d) d.line) ∙ h.lines_room;
          noted = λ k. rw (a.lines, p.lines) (noted_after (length (own_last.segments ++ new ∷ [])) bytes_fit k);
          begun = λ q. never (empty x.done) q (is_begun d x h d.line e);
          last = rw a.job (at ∙ own_last.place, line ∙ own_last.since, count_is);
          names = rw (a.names, p.names) h.names;
          few = h.few;
        })

-- ---- what pushing answers

abbrev pub PushTold : Draft → List ℕ → Draft → Result (Unit {0}) Refused → Type 0
PushTold d bytes after result =
    MatchResult result (λ _. Pushed d bytes after) (λ e. (e ≡ record { cause = TooLong; line = d.line }) × (4096 < size d + length bytes))

pub frame_told : (d : Draft) (x : Draw) → Holds d x → (f : ℕ) (bytes : List ℕ) (d' : Draft) (result : Result (Unit {0}) Refused) → size d ≡ 0 → bytes ≡ record_bytes (Frame f)
    → PushTold d bytes d' result → Told d' result (with_frame d.line f x)
frame_told d x h f bytes d' (Ok u) e b p = frame_first d x h f d' e (rw b at p)
frame_told d x h f bytes d' (Err r) e b p = absurd (omega (arith, p.1, e, ap length b, record_size (Frame f)))
