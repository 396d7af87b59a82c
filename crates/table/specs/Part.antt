-- The part of the caller's table that holds one job's records (paper 01, 'Table bytes').
use Rattle.std.specs.Prelude.{ℕ, ◌+◌, ◌*◌, ◌≡◌, List, Bool, cond, ◌&&◌, length, get_or, take, drop, ltb, eqb}
use Rattle.std.specs.Borrow.{Bor}
use Rattle.table.specs.Records.{reading_of}
use Rattle.table.specs.Table.{no_job, jobs_of}
use Rattle.table.specs.Refusal.{refusal}
use Rattle.table.specs.declared.Job.{Job}

-- the jobs of the table that the bytes are
abbrev pub jobs_in : List ℕ → List Job
jobs_in s = jobs_of (reading_of s).records

-- the table draws none of 1 to 4, and has the job
unfoldable pub has : List ℕ → ℕ → Bool
has s j = eqb (refusal s).number 0 && ltb j (length (jobs_in s))

-- where the part starts: at the job's mark; else at the end
unfoldable pub start_of : List ℕ → ℕ → ℕ
start_of s j = cond (has s j) (get_or (jobs_in s) j no_job).mark (length s)

-- its length: a JB record of 8 bytes, and as many SG records of 12 as the job counts; else none
unfoldable pub length_of : List ℕ → ℕ → ℕ
length_of s j = cond (has s j) (8 + 12 * (get_or (jobs_in s) j no_job).count) 0

-- the bytes of one job, its JB and SG records together
abbrev pub part_of : List ℕ → ℕ → List ℕ
part_of s j = take (length_of s j) (drop (start_of s j) s)

-- a slice is a part of another: in the same block of memory, so many bytes further on, with these bytes
pub record Lies (whole part : Bor (List ℕ)) (start : ℕ) (bytes : List ℕ) : Type 0 where
  pub block : part.ref_ptr.0 ≡ whole.ref_ptr.0
  pub place : part.ref_ptr.1 ≡ whole.ref_ptr.1 + start
  pub content : part.now ≡ bytes
