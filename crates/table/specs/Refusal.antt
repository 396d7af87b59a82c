-- Refusals 1 to 4 (paper 01, 'Numbers returned when a call declines'): of each, the places where it arises; and what reading a table answers.
use Rattle.std.specs.Prelude.{ℕ, ◌+◌, List, [], ◌∷◌, ◌++◌, Result, Ok, Err, Bool, true, false, cond, ◌||◌, length, ltb, leb, eqb}
use Rattle.table.specs.Limits.{most_bytes, most_jobs, most_segments, most_ticks, most_base, most_count}
use Rattle.table.specs.Records.{Placed, Reading, reading_of}
use Rattle.table.specs.Table.{jobs_of, recorded}
use Rattle.table.specs.declared.Fault.{Fault}
use Rattle.table.specs.declared.Fault.TheVariants.{Unreadable, OutOfBounds, OutOfOrder, Crowded}
use Rattle.table.specs.declared.Refused.{Refused}
use Rattle.table.specs.declared.Table.{Table}
use Rattle.table.specs.declared.scan.Known.{Known}
use Rattle.table.specs.declared.records.Record.{Record}
use Rattle.table.specs.declared.records.Record.TheVariants.{Frame, Job, Segment}

-- ---- what the records before a record say: the frame length, the release of the last job, and how many jobs and segments there are

abbrev pub nothing : Known
nothing = record { frame = 0; release = 0; jobs = 0; segments = 0 }

abbrev pub learn : Known → Record → Known
learn k (Frame f) = record { frame = f; release = k.release; jobs = k.jobs; segments = k.segments }
learn k (Job r b n) = record { frame = k.frame; release = r; jobs = k.jobs + 1; segments = k.segments }
learn k (Segment l h m) = record { frame = k.frame; release = k.release; jobs = k.jobs; segments = k.segments + 1 }

-- ---- what may be wrong with a record

-- a number outside its bounds: frame 1 to 1,000,000; release 0 to frame - 1; base priority 1 to 200; 1 to 8 segments; 1 ≤ shortest ≤ longest ≤ 1,000,000
abbrev pub outside : Known → Record → Bool
outside k (Frame f) = ltb f 1 || ltb most_ticks f
outside k (Job r b n) = leb k.frame r || ltb b 1 || ltb most_base b || ltb n 1 || ltb most_count n
outside k (Segment l h m) = ltb l 1 || ltb h l || ltb most_ticks h

-- a job released earlier than the job before it
abbrev pub earlier : Known → Record → Bool
earlier k (Frame f) = false
earlier k (Job r b n) = ltb r k.release
earlier k (Segment l h m) = false

-- a job after 32 jobs, or a segment after 64 segments
abbrev pub beyond : Known → Record → Bool
beyond k (Frame f) = false
beyond k (Job r b n) = leb most_jobs k.jobs
beyond k (Segment l h m) = leb most_segments k.segments

-- this place, if there is cause
abbrev pub when : Bool → ℕ → List ℕ
when true at = at ∷ []
when false at = []

-- the places of the records that fail a test
unfoldable pub failing : (Known → Record → Bool) → Known → List Placed → List ℕ
failing test k [] = []
failing test k (r ∷ rs) = when (test k r.what) r.at ++ failing test (learn k r.what) rs

-- ---- the four refusals: of a reading, the places where each arises

-- 1: no FR at the start, wrong mark, wrong place for a mark, a record cut off, or fewer SG records than a JB counts
abbrev pub unread : Reading → List ℕ
unread x = cond x.whole [] (x.stop ∷ [])

-- 2: a frame length, release, priority, segment count of a JB, shortest or longest outside its bounds
abbrev pub out_of_bounds : List Placed → List ℕ
out_of_bounds rs = failing outside nothing rs

-- 3: a job released earlier than the job before it
abbrev pub out_of_order : List Placed → List ℕ
out_of_order rs = failing earlier nothing rs

-- 4: no job (that is seen at the end of the bytes), more than 32 jobs, or more than 64 segments
abbrev pub crowded : ℕ → List Placed → List ℕ
crowded end rs = when (eqb (length (jobs_of rs)) 0) end ++ failing beyond nothing rs

-- a refusal: its number, and the place where it arose first
pub record Refusal : Type 0 where
  pub number : ℕ
  pub place : ℕ

-- number n at the first of these places; where there is none, what comes after it
abbrev pub or_else : ℕ → List ℕ → Refusal → Refusal
or_else n [] later = later
or_else n (at ∷ ats) later = record { number = n; place = at }

-- the lowest that applies to a reading of so many bytes; 2 to 4 only where it is whole
unfoldable pub refusal_in : ℕ → Reading → Refusal
refusal_in end x =
    or_else 1 (unread x)
    (or_else 2 (out_of_bounds x.records) (or_else 3 (out_of_order x.records) (or_else 4 (crowded end x.records) (record { number = 0; place = 0 }))))

-- the refusal of a table: 1 also for more than 4,096 bytes
unfoldable pub refusal : List ℕ → Refusal
refusal s = cond (ltb most_bytes (length s)) (record { number = 1; place = most_bytes }) (refusal_in (length s) (reading_of s))

-- the number of a fault, and the fault of a number from 1 to 4
abbrev pub fault_number : Fault → ℕ
fault_number Unreadable = 1
fault_number OutOfBounds = 2
fault_number OutOfOrder = 3
fault_number Crowded = 4

abbrev pub fault_of : ℕ → Fault
fault_of n = cond (eqb n 1) Unreadable (cond (eqb n 2) OutOfBounds (cond (eqb n 3) OutOfOrder Crowded))

-- what reading answers, where the records say the table t: the table where nothing refuses it
unfoldable pub answer : Refusal → Table → Result Table Refused
answer n t = cond (eqb n.number 0) (Ok t) (Err (record { fault = fault_of n.number; place = n.place }))

unfoldable pub outcome_of : List ℕ → Result Table Refused
outcome_of s = answer (refusal s) (recorded (reading_of s).records)

-- the table of an answer: of no record where it is refused
abbrev pub table_in : Result Table Refused → Table
table_in (Ok t) = t
table_in (Err e) = recorded []

-- the table that the bytes say
abbrev pub table_of : List ℕ → Table
table_of s = table_in (outcome_of s)
