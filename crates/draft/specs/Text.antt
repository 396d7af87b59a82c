-- What a text says: the records of its table with their lines, or the cause for which it is refused and the line where that arose.
use Rattle.std.specs.Prelude.{ℕ, ◌+◌, List, [], ◌∷◌, ◌++◌, map, Bool, true, false, cond, length, ltb, eqb, Result, Ok, Err}
use Rattle.draft.specs.Words.{words_of, lines_of}
use Rattle.draft.specs.Bytes.{bytes_of}
use Rattle.draft.specs.Cause.{cause_number}
use Rattle.draft.specs.Forms.{Says, line_says, most_four}
use Rattle.draft.specs.declared.cause.Cause.{Cause}
use Rattle.draft.specs.declared.forms.Line.{Line}
use Rattle.draft.specs.declared.forms.Line.TheVariants.{Nothing, Frame, Job, Segment}
use Rattle.table.specs.declared.records.Record.{Record}
use Rattle.table.specs.declared.records.Record.TheVariants as Table
use Rattle.table.specs.Limits.{most_bytes}
use Rattle.table.specs.Records.{size_of}

-- a record, and the line that it stands on
pub record Lined : Type 0 where
  pub line : ℕ
  pub what : Record

-- the last job so far: none, or its line, release, priority and segments
pub data Last : Type 0 where
  no_job : Last
  a_job : (line release priority : ℕ) → List Lined → Last

-- the lines so far: a cause (0 for none) and its line, or the line read last; the records before the last job; the last job; the lock names
pub record Draw : Type 0 where
  pub cause : ℕ
  pub line : ℕ
  pub done : List Lined
  pub last : Last
  pub names : List (List ℕ)

-- a job's records: its own, which counts its segments, and theirs
abbrev pub job_records : Last → List Lined
job_records no_job = []
job_records (a_job line release priority segments) = record { line = line; what = Table.Job release priority (length segments) } ∷ segments

abbrev pub records_of : Draw → List Lined
records_of x = x.done ++ job_records x.last

-- the bytes of such records
abbrev pub lined_bytes : List Lined → List ℕ
lined_bytes rs = bytes_of (map (λ r. r.what) rs)

abbrev pub size_so_far : Draw → ℕ
size_so_far x = length (lined_bytes (records_of x))

abbrev pub refuse : (cause line : ℕ) → Draw → Draw
refuse cause line x = record { cause = cause; line = line; done = x.done; last = x.last; names = x.names }

-- these records before the last job, and this last job
abbrev pub drawn : Draw → List Lined → Last → Draw
drawn x done last = record { cause = x.cause; line = x.line; done = done; last = last; names = x.names }

-- there is no record yet
abbrev pub empty : List Lined → Bool
empty [] = true
empty (r ∷ rs) = false

-- the text is refused for the last job if it has no segment; else it goes on
abbrev pub unless_bare : Last → (ℕ → Draw) → Draw → Draw
unless_bare no_job refused goes = goes
unless_bare (a_job line release priority []) refused goes = refused line
unless_bare (a_job line release priority (s ∷ ss)) refused goes = goes

-- more than fit a table
abbrev pub too_long : Draw → Record → Bool
too_long x r = ltb most_bytes (size_so_far x + size_of r)

unfoldable pub with_frame : (n frame : ℕ) → Draw → Draw
with_frame n frame x = cond (empty x.done) (drawn x (record { line = n; what = Table.Frame frame } ∷ []) no_job) (refuse 5 n x)

unfoldable pub with_job : (n release priority : ℕ) → Draw → Draw
with_job n release priority x =
    cond (empty x.done) (refuse 5 n x)
    (unless_bare x.last (λ line. refuse 7 line x)
    (cond (too_long x (Table.Job release priority 0)) (refuse 9 n x) (drawn x (records_of x) (a_job n release priority []))))

-- one segment more of the last job, of which there are at most 255
abbrev pub add_segment : (n : ℕ) → Record → Draw → Last → Draw
add_segment n r x no_job = refuse 6 n x
add_segment n r x (a_job line release priority ss) =
    cond (eqb (length ss) 255) (refuse 7 n x)
    (cond (too_long x r) (refuse 9 n x) (drawn x x.done (a_job line release priority (ss ++ record { line = n; what = r } ∷ []))))

unfoldable pub with_segment : (n : ℕ) → Record → Draw → Draw
with_segment n r x = cond (empty x.done) (refuse 5 n x) (add_segment n r x x.last)

-- line n says this
unfoldable pub with_line : (n : ℕ) → Line → Draw → Draw
with_line n Nothing x = x
with_line n (Frame frame) x = with_frame n frame x
with_line n (Job release priority) x = with_job n release priority x
with_line n (Segment shortest longest held) x = with_segment n (Table.Segment shortest longest held) x

-- line n is read; the lock names are those known after it
abbrev pub reading : (n : ℕ) → List (List ℕ) → Draw → Draw
reading n names x = record { cause = x.cause; line = n; done = x.done; last = x.last; names = names }

abbrev pub said : (n : ℕ) → Result Says Cause → Draw → Draw
said n (Ok s) x = with_line n s.line (reading n s.names x)
said n (Err cause) x = refuse (cause_number cause) n (reading n x.names x)

-- line n, by its words; nothing more after a cause
unfoldable pub read_line : (n : ℕ) → List (List ℕ) → Draw → Draw
read_line n ws x = cond (eqb x.cause 0) (said n (line_says x.names ws) x) x

-- the number of the next line; the numbers end at the largest of four bytes
abbrev pub next_line : ℕ → ℕ
next_line n = cond (ltb n most_four) (n + 1) n

-- the lines from line n on
unfoldable pub read_lines : (n : ℕ) → List (List ℕ) → Draw → Draw
read_lines n [] x = x
read_lines n (l ∷ ls) x = read_lines (next_line n) ls (read_line n (words_of l) x)

-- the text ends: it has no line with words, or its last job has no segment
unfoldable pub ended : Draw → Draw
ended x =
    cond (eqb x.cause 0) (cond (empty x.done) (refuse 10 x.line x) (unless_bare x.last (λ line. refuse 7 line x) x)) x

abbrev pub start : Draw
start = record { cause = 0; line = 0; done = []; last = no_job; names = [] }

unfoldable pub draw_of : List ℕ → Draw
draw_of s = ended (read_lines 1 (lines_of s) start)

-- what a text says: 0 and the records of its table (the line is its last); or a cause and its line
pub record Told : Type 0 where
  pub cause : ℕ
  pub line : ℕ
  pub records : List Lined

unfoldable pub says_of : List ℕ → Told
says_of s = record { cause = (draw_of s).cause; line = (draw_of s).line; records = records_of (draw_of s) }
