-- What an accepted table keeps, of its job set: the laws of the kernel, and how large its numbers are.
use Prim.Native.Nat.{ℕ, zero, suc, ◌+◌, ◌≤◌, ◌<◌}
use native.Mathlib.Omega.{arith}
use Rattle.std.specs.Prelude.{◌≡◌, refl}
use Rattle.std.proofs.Common.{sym, ◌∙◌}
use Rattle.std.proofs.Math.Path.{ap}
use Rattle.table.specs.declared.Table.{Table}
use Rattle.table.specs.Sound.{Sound}
use Rattle.table.specs.Table.{the_job, the_segment}
use Rattle.kernel.specs.Rules.{JobSet}
use Rattle.kernel.specs.Jobs.{sum, holds, locks, base_of, count_of, number_of, held_by, user_base, ceiling, ceilings, dispatched_priority, clipped, jobs_of}
use Rattle.kernel.specs.Laws.Tests.{split}
use Rattle.kernel.specs.Laws.Control.{Lawful}
use Rattle.kernel.specs.Laws.Sums.{sum_rises, sum_same}
use Rattle.kernel.specs.Laws.Largest.{largest_le, if_most}
use Rattle.jobset.specs.Laws.Clipped.{if_no_job, Agree, clipped_agrees}

-- the rows of a table, of which its job set is made
abbrev pub rows_of : Table → JobSet
rows_of t = record {
  frame = t.frame;
  jobs = t.jobs;
  release = λ i. (the_job t i).release;
  base = base_of t;
  segments = count_of t;
  priority = dispatched_priority t;
  shortest = λ i k. (the_segment t (number_of t i k)).shortest;
  longest = λ i k. (the_segment t (number_of t i k)).longest;
}

pub job_set_agrees : (t : Table) → Agree (jobs_of t) (rows_of t)
unfolding jobs_of
job_set_agrees t = clipped_agrees (rows_of t)

module _ (t : Table) (S : Sound t) where
  -- ---- segments in table order

  pub first_is : (i : ℕ) → i < t.jobs → (the_job t i).first ≡ sum (count_of t) i
  unfolding sum
  first_is zero h = S.first
  first_is (suc i) h = S.next i h ∙ ap (λ (n : ℕ). n + count_of t i) (first_is i (omega arith))

  all_segments : (n : ℕ) → t.jobs ≡ n → sum (count_of t) n ≡ t.segments
  unfolding sum
  all_segments zero e = absurd (omega (arith, S.jobs_some))
  all_segments (suc j) e = omega (arith, S.last j (sym e), first_is j (omega arith))

  -- the segments of a job end before those of a later one begin
  pub earlier_number : (i n k : ℕ) → i < n → n < t.jobs → k < count_of t i → number_of t i k < (the_job t n).first
  unfolding sum
  earlier_number i n k h q z =
      omega (arith, first_is i (omega arith), first_is n q, sum_rises (count_of t) (suc i) n h)

  pub last_number : (i : ℕ) → i < t.jobs → (the_job t i).first + count_of t i ≤ t.segments
  unfolding sum
  last_number i h = omega (arith, first_is i h, sum_rises (count_of t) (suc i) t.jobs h, all_segments t.jobs refl)

  -- within the row
  pub segments_fit : (i : ℕ) → i < t.jobs → (the_job t i).first + count_of t i ≤ 64
  segments_fit i h = omega (arith, last_number i h, S.segments_most)

  number_inside : (i k : ℕ) → i < t.jobs → k < count_of t i → number_of t i k < t.segments
  number_inside i k h q = omega (arith, last_number i h)

  -- ---- releases

  release_rises : (i j : ℕ) → i ≤ j → j < t.jobs → (the_job t i).release ≤ (the_job t j).release
  release_rises i zero h q = let e : i ≡ 0 = omega arith in rw e (omega arith)
  release_rises i (suc j) h q = split i (suc j)
      (λ (z : i < suc j). omega (arith, release_rises i j (omega arith) (omega arith), S.order j q))
      (λ (z : suc j ≤ i). let e : i ≡ suc j = omega arith in rw e (omega arith))

  -- ---- priorities

  user_most : (lock i : ℕ) → i < t.jobs → user_base t lock i ≤ 200
  unfolding user_base
  user_most lock i h = largest_le _ (count_of t i) 200 (λ k q. if_most (holds (held_by t i k) lock) (base_of t i) 200 (S.job i h).base_most)

  ceiling_most : (lock : ℕ) → ceiling t lock ≤ 201
  unfolding ceiling
  ceiling_most lock = omega (arith, largest_le (user_base t lock) t.jobs 200 (user_most lock))

  ceilings_most : (held : ℕ) → ceilings t held ≤ 201
  unfolding ceilings
  ceilings_most held = largest_le _ locks 201 (λ lock q. if_most (holds held lock) (ceiling t lock) 201 (ceiling_most lock))

  priority_most : (i k : ℕ) → i < t.jobs → dispatched_priority t i k ≤ 201
  unfolding dispatched_priority
  priority_most i k h = omega (arith, ceilings_most (held_by t i k), (S.job i h).base_most)

  priority_raised : (i k : ℕ) → base_of t i ≤ dispatched_priority t i k
  unfolding dispatched_priority
  priority_raised i k = omega arith

  -- ---- the job set

  in_row : (i k : ℕ) → i < t.jobs → k < (jobs_of t).segments i → k < count_of t i
  in_row i k h q = omega (arith, (job_set_agrees t).segments i h)

  pub accepted_lawful : Lawful (jobs_of t)
  unfolding jobs_of clipped
  accepted_lawful =
      let A = job_set_agrees t in
      record {
        sorted = λ i j h q. omega (arith, A.release i (omega arith), A.release j q, release_rises i j h q);
        raised = λ i k h q.
            let z : k < count_of t i = in_row i k h q in
            omega (arith, A.base i h, A.priority i k h z, priority_raised i k);
        positive = λ i k h q.
            let z : k < count_of t i = in_row i k h q in
            omega (arith, A.shortest i k h z, (S.segment (number_of t i k) (number_inside i k h z)).some);
        ordered = λ i k h q.
            let z : k < count_of t i = in_row i k h q in
            omega (arith, A.shortest i k h z, A.longest i k h z, (S.segment (number_of t i k) (number_inside i k h z)).order);
        none_released = if_no_job t.jobs (rows_of t).release t.jobs (omega arith);
        none_segments = if_no_job t.jobs (count_of t) t.jobs (omega arith);
        worker = ∣ record { job = 0; inside = S.jobs_some; some = omega (arith, A.segments 0 S.jobs_some, (S.job 0 S.jobs_some).count_some) } ∣₁;
      }

  -- the number of a job's first segment: how many come before it
  pub accepted_first : (i : ℕ) → i < t.jobs → (the_job t i).first ≡ sum (jobs_of t).segments i
  accepted_first i h = first_is i h ∙ sum_same (count_of t) (jobs_of t).segments i (λ j q. sym ((job_set_agrees t).segments j (omega arith)))

  pub accepted_segments : sum (jobs_of t).segments t.jobs ≤ 64
  accepted_segments = omega (
    arith,
    sum_same (count_of t) (jobs_of t).segments t.jobs (λ j q. sym ((job_set_agrees t).segments j q)),
    all_segments t.jobs refl,
    S.segments_most,
  )

  pub accepted_release : (i : ℕ) → i < t.jobs → (jobs_of t).release i < t.frame
  accepted_release i h = omega (arith, (job_set_agrees t).release i h, (S.job i h).released)

  pub accepted_base : (i : ℕ) → i < t.jobs → (jobs_of t).base i ≤ 200
  accepted_base i h = omega (arith, (job_set_agrees t).base i h, (S.job i h).base_most)

  pub accepted_priority : (i k : ℕ) → i < t.jobs → k < (jobs_of t).segments i → (jobs_of t).priority i k ≤ 201
  accepted_priority i k h q = omega (arith, (job_set_agrees t).priority i k h (in_row i k h q), priority_most i k h)

  pub accepted_times : (i k : ℕ) → i < t.jobs → k < (jobs_of t).segments i → (jobs_of t).longest i k ≤ 1000000
  accepted_times i k h q =
      let z : k < count_of t i = in_row i k h q in
      omega (arith, (job_set_agrees t).longest i k h z, (S.segment (number_of t i k) (number_inside i k h z)).most)
