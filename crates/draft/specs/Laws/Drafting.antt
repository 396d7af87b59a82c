-- One line more in a draft: what the code does with its arrays is what the text's reading does with the records.
use Rattle.std.specs.Prelude.{ℕ, ◌+◌, ◌<◌, ◌≡◌, refl, Bool, true, false, cond, eqb, ltb, Option, Some, None, Result, Ok, Err}
use Rattle.std.proofs.Common.{arith, ◌∙◌, ap, eq-eqb, ne_eqb, lt-ltb}
use Rattle.std.proofs.Math.Path.{sym}
use mathlib.Core.List.{List, [], ◌∷◌, ◌++◌}
use Rattle.std.proofs.Math.ListN.{length}
use Rattle.draft.specs.Text.{Lined, Last, no_job, a_job, Draw, job_records, records_of, lined_bytes, size_so_far, refuse, drawn, empty, unless_bare, too_long, with_frame, with_job, add_segment, with_segment}
use Rattle.draft.specs.LastJob.{bare_line}
use Rattle.draft.specs.Drafts.{LastIs, Holds, Told, size}
use Rattle.draft.specs.Cause.{cause_number}
use Rattle.draft.specs.Laws.Runs.{never}
use Rattle.draft.specs.Laws.TextLines.{cause_some}
use Rattle.draft.specs.Laws.Records.{size_none, size_some}
use Rattle.draft.specs.declared.cause.Cause.{Cause}
use Rattle.draft.specs.declared.cause.Refused.{Refused}
use Rattle.draft.specs.declared.draft.LastJob.{LastJob}
use Rattle.draft.specs.declared.draft.Draft.{Draft}
use Rattle.table.specs.Records.{size_of}
use Rattle.table.specs.declared.records.Record.{Record}

-- ---- records and their size

none_yet : (done rest : List Lined) → length (lined_bytes (done ++ rest)) ≡ 0 → (empty done ≡ true) × (done ++ rest ≡ [])
none_yet [] [] e = (refl, refl)
none_yet [] (r ∷ rest) e = absurd (omega (arith, e, size_some r rest))
none_yet (r ∷ done) rest e = absurd (omega (arith, e, size_some r (done ++ rest)))

some_done : (done : List Lined) (last : Last) → (empty done ≡ true → last ≡ no_job) → (length (lined_bytes (done ++ job_records last)) ≡ 0 → ⊥) → empty done ≡ false
some_done [] last h d = absurd (d (rw (h refl) size_none))
some_done (r ∷ done) last h d = refl

pub some_more : (done rest : List Lined) → empty done ≡ false → empty (done ++ rest) ≡ false
some_more [] rest e = never true refl e
some_more (r ∷ done) rest e = refl

-- ---- the last job

-- it has no segment: the text is refused at its line
pub bare_refused : (job : Option LastJob) (done : List Lined) (last : Last) (refused : ℕ → Draw) (goes : Draw) (line : ℕ) → LastIs job done last → bare_line job ≡ Some line
    → unless_bare last refused goes ≡ refused line
bare_refused None done last refused goes line l e = cc
bare_refused (Some job) done no_job refused goes line l e = absurd l
bare_refused (Some job) done (a_job n r p []) refused goes line l e =
    let here : Some job.line ≡ Some line = rw (eq-eqb job.segments 0 l.2) at e in
    let same : job.line ≡ line = cc in
    ap refused (sym l.1 ∙ same)
bare_refused (Some job) done (a_job n r p (s ∷ ss)) refused goes line l e =
    let none : None ≡ Some line = rw (ne_eqb job.segments 0 (λ (q : job.segments ≡ 0). omega (arith, l.2, q))) at e in cc

-- else it goes on
pub bare_not : (job : Option LastJob) (done : List Lined) (last : Last) (refused : ℕ → Draw) (goes : Draw) → LastIs job done last → bare_line job ≡ None
    → unless_bare last refused goes ≡ goes
bare_not job done no_job refused goes l e = refl
bare_not None done (a_job n r p ss) refused goes l e = absurd l
bare_not (Some job) done (a_job n r p []) refused goes l e = let some : Some job.line ≡ None = rw (eq-eqb job.segments 0 l.2) at e in cc
bare_not (Some job) done (a_job n r p (s ∷ ss)) refused goes l e = refl

-- ---- a text that is refused, and one that is not

pub drawn_refused : (d : Draft) (cause : Cause) (n : ℕ) (x : Draw) → Told d (Err (record { cause = cause; line = n })) (refuse (cause_number cause) n x)
drawn_refused d cause n x = (refl, refl)

pub held : (d : Draft) (x : Draw) (result : Result (Unit {0}) Refused) → x.cause ≡ 0 → Told d result x → Holds d x
held d x (Ok u) z h = h
held d x (Err e) z h = absurd (omega (arith, cause_some e.cause, h.0, z))

-- ---- the steps, on a line n that is refused

module _ (d : Draft) (x : Draw) (h : Holds d x) (n : ℕ) where
  -- no record stands yet, or some do
  pub not_begun : size d ≡ 0 → (empty x.done ≡ true) × (records_of x ≡ [])
  not_begun e = none_yet x.done (job_records x.last) (sym (ap length h.bytes) ∙ e)

  pub is_begun : (size d ≡ 0 → ⊥) → empty x.done ≡ false
  is_begun e = some_done x.done x.last h.begun (λ q. e (ap length h.bytes ∙ q))

  pub frame_again : (f : ℕ) → (size d ≡ 0 → ⊥) → with_frame n f x ≡ refuse 5 n x
  unfolding with_frame
  frame_again f e = rw (is_begun e)

  pub job_early : (r p : ℕ) → size d ≡ 0 → with_job n r p x ≡ refuse 5 n x
  unfolding with_job
  job_early r p e = rw (not_begun e).0

  pub job_bare : (r p line : ℕ) → (size d ≡ 0 → ⊥) → bare_line d.job ≡ Some line → with_job n r p x ≡ refuse 7 line x
  unfolding with_job
  job_bare r p line e b = rw (is_begun e, bare_refused d.job x.done x.last (λ line. refuse 7 line x) _ line h.last b)

  pub job_goes : (r p : ℕ) (t : Bool) → (size d ≡ 0 → ⊥) → bare_line d.job ≡ None → ltb 4096 (size_so_far x + 8) ≡ t
      → with_job n r p x ≡ cond t (refuse 9 n x) (drawn x (records_of x) (a_job n r p []))
  unfolding with_job
  job_goes r p t e b l = rw (is_begun e, bare_not d.job x.done x.last (λ line. refuse 7 line x) _ h.last b, l)

  pub job_long : (r p : ℕ) → (size d ≡ 0 → ⊥) → bare_line d.job ≡ None → 4096 < size d + 8 → with_job n r p x ≡ refuse 9 n x
  job_long r p e b l = job_goes r p true e b (lt-ltb 4096 (size_so_far x + 8) (omega (arith, l, ap length h.bytes)))

  pub segment_early : (r : Record) → size d ≡ 0 → with_segment n r x ≡ refuse 5 n x
  unfolding with_segment
  segment_early r e = rw (not_begun e).0

  -- the last job, by its kind
  no_last : (last : Last) → LastIs None x.done last → last ≡ no_job
  no_last no_job l = refl
  no_last (a_job line r p ss) l = absurd l

  pub segment_jobless : (r : Record) → (size d ≡ 0 → ⊥) → d.job ≡ None → with_segment n r x ≡ refuse 6 n x
  unfolding with_segment
  segment_jobless r e j = rw (is_begun e, no_last x.last (rw j at h.last))

  -- the last job's line, release, priority and segments
  pub record Stood (job : LastJob) : Type 0 where
    pub line : ℕ
    pub release : ℕ
    pub priority : ℕ
    pub segments : List Lined
    pub is : x.last ≡ a_job line release priority segments
    pub place : job.at ≡ length (lined_bytes x.done)
    pub since : job.line ≡ line
    pub count : job.segments ≡ length segments

  pub stood : (job : LastJob) (last : Last) → x.last ≡ last → LastIs (Some job) x.done last → Stood job
  stood job no_job e l = absurd l
  stood job (a_job line r p ss) e l = record { line = line; release = r; priority = p; segments = ss; is = e; place = l.0; since = l.1; count = l.2 }

  add_is : (r : Record) (last : Last) (line release priority : ℕ) (ss : List Lined) (many long : Bool) → last ≡ a_job line release priority ss → eqb (length ss) 255 ≡ many
      → too_long x r ≡ long
      → add_segment n r x last ≡ cond many (refuse 7 n x) (cond long (refuse 9 n x) (drawn x x.done (a_job line release priority (ss ++ record { line = n; what = r } ∷ []))))
  add_is r last line release priority ss many long e p q = rw (e, p, q)

  module _ (r : Record) (e : size d ≡ 0 → ⊥) (job : LastJob) (j : d.job ≡ Some job) where
    pub last : Stood job
    last = stood job x.last refl (rw j at h.last)

    pub segment_is : (many long : Bool) → eqb (length last.segments) 255 ≡ many → too_long x r ≡ long
        → with_segment n r x
        ≡ cond many (refuse 7 n x)
        (cond long (refuse 9 n x) (drawn x x.done (a_job last.line last.release last.priority (last.segments ++ record { line = n; what = r } ∷ []))))
    unfolding with_segment
    segment_is many long p q = rw (is_begun e) (add_is r x.last last.line last.release last.priority last.segments many long last.is p q)

    pub segment_many : job.segments ≡ 255 → with_segment n r x ≡ refuse 7 n x
    segment_many c = segment_is true (too_long x r) (eq-eqb (length last.segments) 255 (sym last.count ∙ c)) refl

    pub few : (job.segments ≡ 255 → ⊥) → eqb (length last.segments) 255 ≡ false
    few c = ne_eqb (length last.segments) 255 (λ q. c (last.count ∙ q))

    pub segment_long : (job.segments ≡ 255 → ⊥) → 4096 < size d + size_of r → with_segment n r x ≡ refuse 9 n x
    segment_long c l = segment_is false true (few c) (lt-ltb 4096 (size_so_far x + size_of r) (rw h.bytes at l))
