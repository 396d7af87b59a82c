-- What every accepted table keeps, for the layers above: proved in proofs/Sound.antt.
use Rattle.std.specs.Prelude.{ℕ, suc, ◌+◌, ◌≤◌, ◌<◌, ◌≡◌}
use Rattle.table.specs.Limits.{most_jobs, most_segments, most_ticks, most_base, most_count}
use Rattle.table.specs.Table.{the_job, the_segment}
use Rattle.table.specs.declared.Job.{Job}
use Rattle.table.specs.declared.Segment.{Segment}
use Rattle.table.specs.declared.Table.{Table}

-- a job of a table with a frame of so many ticks
pub record SoundJob (frame : ℕ) (job : Job) : Type 0 where
  pub released : job.release < frame
  pub base_some : 1 ≤ job.base
  pub base_most : job.base ≤ most_base
  pub count_some : 1 ≤ job.count
  pub count_most : job.count ≤ most_count

pub record SoundSegment (segment : Segment) : Type 0 where
  pub some : 1 ≤ segment.shortest
  pub order : segment.shortest ≤ segment.longest
  pub most : segment.longest ≤ most_ticks

pub record Sound (t : Table) : Type 0 where
  pub jobs_some : 1 ≤ t.jobs
  pub jobs_most : t.jobs ≤ most_jobs
  pub segments_most : t.segments ≤ most_segments
  pub frame_most : t.frame ≤ most_ticks
  pub job : (j : ℕ) → j < t.jobs → SoundJob t.frame (the_job t j)
  pub segment : (k : ℕ) → k < t.segments → SoundSegment (the_segment t k)
  -- releases do not fall
  pub order : (j : ℕ) → suc j < t.jobs → (the_job t j).release ≤ (the_job t (suc j)).release
  -- first segments add up
  pub first : (the_job t 0).first ≡ 0
  pub next : (j : ℕ) → suc j < t.jobs → (the_job t (suc j)).first ≡ (the_job t j).first + (the_job t j).count
  pub last : (j : ℕ) → suc j ≡ t.jobs → (the_job t j).first + (the_job t j).count ≡ t.segments
