-- What is held of a table, and what the functions that lay it out promise.
use Rattle.std.specs.Prelude.{ℕ, ◌<◌, ◌≡◌, cond, List, get_or, map}
use Rattle.std.proofs.Common.{sym, ◌∙◌}
use Rattle.std.specs.List.{range_with_len, flat_map}
use Rattle.table.specs.Limits.{most_jobs, most_segments}
use Rattle.table.specs.Table.{the_job, the_segment, padded}
use Rattle.table.specs.declared.Table.{Table}
use Rattle.kernel.specs.Jobs.{largest, holds, locks, base_of, count_of, number_of, ceiling, dispatched_priority, jobs_of}
use Rattle.kernel.specs.Held.{no_job, no_segment, set_of, Loaded}
use Rattle.kernel.specs.declared.jobs.Job.{Job}
use Rattle.kernel.specs.declared.jobs.Segment.{Segment}
use Rattle.kernel.specs.declared.jobs.Jobs.{Jobs}

-- ---- ceilings

-- a row of ceilings is that of the table's locks
abbrev pub Ceilings : Table → List ℕ → Type 0
Ceilings t row = (lock : ℕ) → lock < locks → get_or row lock 0 ≡ ceiling t lock

-- the largest ceiling, from a row of them, of the locks held
unfoldable pub highest : List ℕ → (held : ℕ) → ℕ
highest row held = largest (λ lock. cond (holds held lock) (get_or row lock 0) 0) locks

-- ---- the job set

module _ (t : Table) where
  -- job i of the table, and segment k of it
  abbrev pub held_job : ℕ → Job
  held_job i = record { release = (the_job t i).release; base = base_of t i; first = (the_job t i).first; segments = count_of t i }

  abbrev pub held_segment : (i k : ℕ) → Segment
  held_segment i k = let s = the_segment t (number_of t i k) in record { shortest = s.shortest; longest = s.longest; priority = dispatched_priority t i k }

  -- the segments of job i
  unfoldable pub segments_of : ℕ → List Segment
  segments_of i = map (held_segment i) (range_with_len 0 (count_of t i))

  -- the first n jobs, the segments of each in turn, and none after them
  unfoldable pub held_first : ℕ → Jobs
  held_first n = record {
    frame = t.frame;
    count = t.jobs;
    job = padded most_jobs no_job (map held_job (range_with_len 0 n));
    segment = padded most_segments no_segment (flat_map segments_of (range_with_len 0 n));
  }

  -- what is held of a table
  abbrev pub held_of : Jobs
  held_of = held_first t.jobs

-- the job set of an accepted table: it is held as such, and keeps what that of a table keeps
pub record Laid (t : Table) (w : Jobs) : Type 0 where
  pub held : w ≡ held_of t
  pub set : set_of w ≡ jobs_of t
  pub loaded : Loaded w

-- what is laid of a table is one job set
pub laid_once : (t : Table) (w v : Jobs) → Laid t w → Laid t v → w ≡ v
laid_once t w v A B = A.held ∙ sym B.held
