-- What is held of an accepted table is its job set, and keeps what that of a table keeps.
use Rattle.std.specs.Prelude.{ℕ, ◌+◌, ◌≤◌, ◌<◌, ◌≡◌, refl, List, length, take, get_or}
use Rattle.std.specs.List.{range_with_len, flat_map}
use Rattle.std.proofs.Common.{arith, ap, sym, ◌∙◌, lt-ltb, le-ltb}
use Rattle.std.proofs.Math.Path.{fun_ext}
use Rattle.std.proofs.lemmas.List.Concat.{get_or-flat_map}
use Rattle.std.proofs.lemmas.List.FromFn.{get_or-range_with_len, get_or-map-range_with_len, length-range_with_len}
use Rattle.table.specs.Sound.{Sound}
use Rattle.table.specs.declared.Table.{Table}
use Rattle.table.proofs.Whole.{get_or_padded}
use Rattle.kernel.specs.Jobs.{count_of, number_of, if_job, if_segment, clipped, jobs_of}
use Rattle.kernel.specs.Held.{no_job, no_segment, job_at, segment_at, first_of, set_of, Loaded}
use Rattle.kernel.specs.declared.jobs.Job.{Job}
use Rattle.kernel.specs.declared.jobs.Segment.{Segment}
use Rattle.kernel.specs.declared.jobs.Jobs.{Jobs}
use Rattle.kernel.specs.Laws.Tests.{split}
use Rattle.jobset.specs.Load.{held_job, held_segment, segments_of, held_first, held_of, Laid}
use Rattle.jobset.specs.Laws.Clipped.{if_job_lem, if_no_job, if_segment_lem, if_no_segment, is_job}
use Rattle.jobset.specs.Laws.Accepted.{first_is, segments_fit, accepted_lawful, accepted_first, accepted_segments, accepted_release, accepted_base, accepted_priority, accepted_times}
use Rattle.jobset.proofs.Rows.{front, length_segments, length_front, take_range}

module _ (t : Table) (S : Sound t) where
  abbrev w : Jobs
  w = held_of t

  -- ---- each job and each segment in its place

  job_is : (i : ℕ) → i < t.jobs → job_at w i ≡ held_job t i
  unfolding job_at held_first
  job_is i h =
      rw (lt-ltb i t.jobs h)
      (get_or_padded 32 no_job _ i (omega (arith, S.jobs_most)) ∙ get_or-map-range_with_len (held_job t) 0 t.jobs i i no_job h (omega arith))

  job_none : (i : ℕ) → t.jobs ≤ i → job_at w i ≡ no_job
  unfolding job_at held_first
  job_none i h = rw (le-ltb i t.jobs h)

  at_front : (i k : ℕ) → i < t.jobs → k < count_of t i → get_or (front t t.jobs) (number_of t i k) no_segment ≡ held_segment t i k
  unfolding segments_of
  at_front i k h q =
      let jobs : List ℕ = range_with_len 0 t.jobs in
      let e : number_of t i k ≡ length (flat_map (segments_of t) (take i jobs)) + k =
      rw (take_range t.jobs i (omega arith)) (omega (arith, length_front t i, first_is t S i h)) in
      let own : get_or jobs i 0 ≡ i = get_or-range_with_len 0 t.jobs i 0 h ∙ omega arith in
      ap (λ (n : ℕ). get_or (front t t.jobs) n no_segment) e
      ∙ get_or-flat_map (segments_of t) jobs i k 0 no_segment (omega (arith, length-range_with_len 0 t.jobs)) (rw own (omega (arith, length_segments t i)))
      ∙ rw own (get_or-map-range_with_len (held_segment t i) 0 (count_of t i) k k no_segment q (omega arith))

  segment_is : (i k : ℕ) → i < t.jobs → k < count_of t i → segment_at w i k ≡ held_segment t i k
  unfolding segment_at held_first
  segment_is i k h q =
      rw (job_is i h, lt-ltb k (count_of t i) q)
      (get_or_padded 64 no_segment _ (number_of t i k) (omega (arith, segments_fit t S i h)) ∙ at_front i k h q)

  segment_none : (i k : ℕ) → (job_at w i).segments ≤ k → segment_at w i k ≡ no_segment
  unfolding segment_at
  segment_none i k h = rw (le-ltb k (job_at w i).segments h)

  -- ---- the job set

  jobs_as : (f : Job → ℕ) → f no_job ≡ 0 → (λ i. f (job_at w i)) ≡ if_job t.jobs (λ i. f (held_job t i))
  jobs_as f z = fun_ext (λ i. split i t.jobs
      (λ (q : i < t.jobs). ap f (job_is i q) ∙ sym (if_job_lem t.jobs (λ i. f (held_job t i)) i q))
      (λ (q : t.jobs ≤ i). ap f (job_none i q) ∙ z ∙ sym (if_no_job t.jobs (λ i. f (held_job t i)) i q)))

  segments_as : (f : Segment → ℕ) → f no_segment ≡ 0 → (λ i k. f (segment_at w i k)) ≡ if_segment (if_job t.jobs (count_of t)) (λ i k. f (held_segment t i k))
  segments_as f z = fun_ext (λ i. fun_ext (λ k. split k (if_job t.jobs (count_of t) i)
      (λ (q : k < if_job t.jobs (count_of t) i).
      let j : i < t.jobs = is_job t.jobs (count_of t) i k q in
      ap f (segment_is i k j (omega (arith, if_job_lem t.jobs (count_of t) i j)))
      ∙ sym (if_segment_lem (if_job t.jobs (count_of t)) (λ i k. f (held_segment t i k)) i k q))
      (λ (q : if_job t.jobs (count_of t) i ≤ k).
      ap f (segment_none i k (omega (arith, ap (λ (s : ℕ → ℕ). s i) (jobs_as (λ (j : Job). j.segments) refl))))
      ∙ z ∙ sym (if_no_segment (if_job t.jobs (count_of t)) (λ i k. f (held_segment t i k)) i k q))))

  set_same : set_of w ≡ jobs_of t
  unfolding set_of jobs_of clipped held_first
  set_same = λ d. record {
    frame = t.frame;
    jobs = t.jobs;
    release = jobs_as (λ (j : Job). j.release) refl d;
    base = jobs_as (λ (j : Job). j.base) refl d;
    segments = jobs_as (λ (j : Job). j.segments) refl d;
    priority = segments_as (λ (s : Segment). s.priority) refl d;
    shortest = segments_as (λ (s : Segment). s.shortest) refl d;
    longest = segments_as (λ (s : Segment). s.longest) refl d;
  }

  set_loaded : Loaded w
  unfolding jobs_of clipped first_of
  set_loaded = record {
    lawful = rw set_same (accepted_lawful t S);
    few_jobs = rw set_same S.jobs_most;
    few_segments = rw set_same (accepted_segments t S);
    firsts = rw set_same (λ i h. ap (λ (j : Job). j.first) (job_is i h) ∙ accepted_first t S i h);
    small_frame = rw set_same S.frame_most;
    small_release = rw set_same (accepted_release t S);
    small_base = rw set_same (accepted_base t S);
    small_priority = rw set_same (accepted_priority t S);
    small_times = rw set_same (accepted_times t S);
  }

-- where all jobs of the table are held
pub laid : (t : Table) (n : ℕ) (w : Jobs) → Sound t → n ≡ t.jobs → w ≡ held_first t n → Laid t w
laid t n w S e h =
    let q : w ≡ held_of t = h ∙ ap (held_first t) e in
    record { held = q; set = rw q (set_same t S); loaded = rw q (set_loaded t S) }
