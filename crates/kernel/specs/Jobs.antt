-- The job set of a table: paper 01, 'The kernel, tick by tick', first paragraph.
use Rattle.std.specs.Prelude.{ℕ, zero, suc, ◌+◌, ◌/◌, ◌%◌, ◌^◌, max, Bool, cond, ltb, eqb}
use Rattle.table.specs.Table.{the_job, the_segment}
use Rattle.table.specs.declared.Table.{Table}
use Rattle.kernel.specs.Rules.{JobSet}

-- the largest of f 0 to f (n - 1), and 0 where there is none
unfoldable pub largest : (ℕ → ℕ) → ℕ → ℕ
largest f zero = 0
largest f (suc n) = max (largest f n) (f n)

-- the sum of f 0 to f (n - 1)
unfoldable pub sum : (ℕ → ℕ) → ℕ → ℕ
sum f zero = 0
sum f (suc n) = sum f n + f n

-- bit `lock` of the held locks
abbrev pub holds : (held lock : ℕ) → Bool
holds held lock = eqb (held / 2 ^ lock % 2) 1

-- there are 16 locks
abbrev pub locks : ℕ
locks = 16

module _ (t : Table) where
  abbrev pub base_of : ℕ → ℕ
  base_of i = (the_job t i).base

  abbrev pub count_of : ℕ → ℕ
  count_of i = (the_job t i).count

  -- the number of segment k of job i in the table
  abbrev pub number_of : (i k : ℕ) → ℕ
  number_of i k = (the_job t i).first + k

  -- the locks that segment k of job i holds
  abbrev pub held_by : (i k : ℕ) → ℕ
  held_by i k = (the_segment t (number_of i k)).held

  -- the base of job i if a segment of it holds the lock
  unfoldable pub user_base : (lock i : ℕ) → ℕ
  user_base lock i = largest (λ k. cond (holds (held_by i k) lock) (base_of i) 0) (count_of i)

  -- A lock's ceiling is the largest base priority of the jobs with a segment that holds it, plus one.
  unfoldable pub ceiling : ℕ → ℕ
  ceiling lock = largest (user_base lock) t.jobs + 1

  -- the largest ceiling of these locks
  unfoldable pub ceilings : ℕ → ℕ
  ceilings held = largest (λ lock. cond (holds held lock) (ceiling lock) 0) locks

  -- Once dispatched, a job's priority is the larger of its base and the ceilings of the locks that its present segment holds.
  unfoldable pub dispatched_priority : (i k : ℕ) → ℕ
  dispatched_priority i k = max (base_of i) (ceilings (held_by i k))

-- what f says of a job, and 0 where there is no such job
abbrev pub if_job : (jobs : ℕ) → (ℕ → ℕ) → ℕ → ℕ
if_job jobs f i = cond (ltb i jobs) (f i) 0

-- what f says of a segment, and 0 where its job has no such segment
abbrev pub if_segment : (segments : ℕ → ℕ) → (ℕ → ℕ → ℕ) → ℕ → ℕ → ℕ
if_segment segments f i k = cond (ltb k (segments i)) (f i k) 0

-- the job set that has 0 wherever there is no such job or segment
unfoldable pub clipped : JobSet → JobSet
clipped J = record {
  frame = J.frame;
  jobs = J.jobs;
  release = if_job J.jobs J.release;
  base = if_job J.jobs J.base;
  segments = if_job J.jobs J.segments;
  priority = if_segment (if_job J.jobs J.segments) J.priority;
  shortest = if_segment (if_job J.jobs J.segments) J.shortest;
  longest = if_segment (if_job J.jobs J.segments) J.longest;
}

-- the job set of a table
unfoldable pub jobs_of : Table → JobSet
jobs_of t = clipped (record {
  frame = t.frame;
  jobs = t.jobs;
  release = λ i. (the_job t i).release;
  base = base_of t;
  segments = count_of t;
  priority = dispatched_priority t;
  shortest = λ i k. (the_segment t (number_of t i k)).shortest;
  longest = λ i k. (the_segment t (number_of t i k)).longest;
})
