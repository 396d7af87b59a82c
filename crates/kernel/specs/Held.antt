-- The job set as the code holds it: a row of 32 jobs and a row of 64 segments in table order.
use Rattle.std.specs.Prelude.{ℕ, ◌+◌, ◌≤◌, ◌<◌, ◌≡◌, cond, get_or, ltb}
use Rattle.kernel.specs.Rules.{JobSet}
use Rattle.kernel.specs.Jobs.{sum}
use Rattle.kernel.specs.Laws.Control.{Lawful}
use Rattle.kernel.specs.declared.jobs.Job.{Job}
use Rattle.kernel.specs.declared.jobs.Segment.{Segment}
use Rattle.kernel.specs.declared.jobs.Jobs.{Jobs}

-- where there is no such job or segment
abbrev pub no_job : Job
no_job = record { release = 0; base = 0; first = 0; segments = 0 }

abbrev pub no_segment : Segment
no_segment = record { shortest = 0; longest = 0; priority = 0 }

-- job i, and segment k of it: its segments are numbered on from its first
unfoldable pub job_at : Jobs → ℕ → Job
job_at w i = cond (ltb i w.count) (get_or w.job i no_job) no_job

unfoldable pub segment_at : Jobs → (i k : ℕ) → Segment
segment_at w i k = cond (ltb k (job_at w i).segments) (get_or w.segment ((job_at w i).first + k) no_segment) no_segment

-- the number of a job's first segment
unfoldable pub first_of : Jobs → ℕ → ℕ
first_of w i = (job_at w i).first

-- the job set that is held
unfoldable pub set_of : Jobs → JobSet
set_of w = record {
  frame = w.frame;
  jobs = w.count;
  release = λ i. (job_at w i).release;
  base = λ i. (job_at w i).base;
  segments = λ i. (job_at w i).segments;
  priority = λ i k. (segment_at w i k).priority;
  shortest = λ i k. (segment_at w i k).shortest;
  longest = λ i k. (segment_at w i k).longest;
}

-- what that of an accepted table keeps
pub record Loaded (w : Jobs) : Type 0 where
  pub lawful : Lawful (set_of w)
  pub few_jobs : (set_of w).jobs ≤ 32
  pub few_segments : sum (set_of w).segments (set_of w).jobs ≤ 64
  pub firsts : (i : ℕ) → i < (set_of w).jobs → first_of w i ≡ sum (set_of w).segments i
  pub small_frame : (set_of w).frame ≤ 1000000
  pub small_release : (i : ℕ) → i < (set_of w).jobs → (set_of w).release i < (set_of w).frame
  pub small_base : (i : ℕ) → i < (set_of w).jobs → (set_of w).base i ≤ 200
  pub small_priority : (i k : ℕ) → i < (set_of w).jobs → k < (set_of w).segments i → (set_of w).priority i k ≤ 201
  pub small_times : (i k : ℕ) → i < (set_of w).jobs → k < (set_of w).segments i → (set_of w).longest i k ≤ 1000000
