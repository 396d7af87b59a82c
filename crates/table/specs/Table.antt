-- What the records of a table say: its jobs and its segments in table order, and the table that holds them.
use Rattle.std.specs.Prelude.{ℕ, zero, suc, ◌+◌, List, [], ◌∷◌, ◌++◌, length, get_or}
use Rattle.table.specs.Limits.{most_jobs, most_segments}
use Rattle.table.specs.Records.{Placed}
use Rattle.table.specs.declared.Job.{Job}
use Rattle.table.specs.declared.Segment.{Segment}
use Rattle.table.specs.declared.Table.{Table}
use Rattle.table.specs.declared.records.Record.{Record}
use Rattle.table.specs.declared.records.Record.TheVariants as Say

-- a job and a segment that no record gave
abbrev pub no_job : Job
no_job = record { mark = 0; release = 0; base = 0; first = 0; count = 0 }

abbrev pub no_segment : Segment
no_segment = record { shortest = 0; longest = 0; held = 0 }

-- a job and a segment of a table, by their number
abbrev pub the_job : Table → ℕ → Job
the_job t j = get_or t.job j no_job

abbrev pub the_segment : Table → ℕ → Segment
the_segment t k = get_or t.segment k no_segment

-- the segment, the job and the frame length that a record gives; k segments come before it
abbrev pub segment_in : Record → List Segment
segment_in (Say.Frame f) = []
segment_in (Say.Job r b n) = []
segment_in (Say.Segment l h m) = record { shortest = l; longest = h; held = m } ∷ []

abbrev pub job_in : (at k : ℕ) → Record → List Job
job_in at k (Say.Frame f) = []
job_in at k (Say.Job r b n) = record { mark = at; release = r; base = b; first = k; count = n } ∷ []
job_in at k (Say.Segment l h m) = []

abbrev pub frame_after : ℕ → Record → ℕ
frame_after k (Say.Frame f) = f
frame_after k (Say.Job r b n) = k
frame_after k (Say.Segment l h m) = k

-- the same of a list of records
unfoldable pub segments_of : List Placed → List Segment
segments_of [] = []
segments_of (r ∷ rs) = segment_in r.what ++ segments_of rs

unfoldable pub jobs_from : ℕ → List Placed → List Job
jobs_from k [] = []
jobs_from k (r ∷ rs) = job_in r.at k r.what ++ jobs_from (k + length (segment_in r.what)) rs

abbrev pub jobs_of : List Placed → List Job
jobs_of rs = jobs_from 0 rs

unfoldable pub frame_of : ℕ → List Placed → ℕ
frame_of k [] = k
frame_of k (r ∷ rs) = frame_of (frame_after k r.what) rs

-- the first n of a row, and the filler where there are fewer
unfoldable pub padded : {E : Type 0} → ℕ → E → List E → List E
padded zero filler xs = []
padded (suc n) filler [] = filler ∷ padded n filler []
padded (suc n) filler (x ∷ xs) = x ∷ padded n filler xs

-- the table of a frame length, jobs and segments
unfoldable pub table_from : ℕ → List Job → List Segment → Table
table_from f js ss = record {
  frame = f;
  jobs = length js;
  segments = length ss;
  job = padded most_jobs no_job js;
  segment = padded most_segments no_segment ss;
}

-- the table of these records
unfoldable pub recorded : List Placed → Table
recorded rs = table_from (frame_of 0 rs) (jobs_of rs) (segments_of rs)
