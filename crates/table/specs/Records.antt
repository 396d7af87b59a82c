-- The records of a table (paper 01, 'Table bytes'): which record stands where one is due, and the reading of a whole table.
use Rattle.std.specs.Prelude.{ℕ, zero, suc, ◌+◌, ◌*◌, ◌-◌, List, [], ◌∷◌, Option, Some, None, Bool, true, false, cond, length, get_or, drop, leb, eqb}
use Rattle.table.specs.declared.records.Place.{Place}
use Rattle.table.specs.declared.records.Place.TheVariants.{First, Next, Within}
use Rattle.table.specs.declared.records.Record.{Record}
use Rattle.table.specs.declared.records.Record.TheVariants.{Frame, Job, Segment}

-- two and four bytes from place i, little-endian
abbrev pub le2 : List ℕ → ℕ → ℕ
le2 s i = get_or s i 0 + 256 * get_or s (i + 1) 0

abbrev pub le4 : List ℕ → ℕ → ℕ
le4 s i = get_or s i 0 + 256 * get_or s (i + 1) 0 + 65536 * get_or s (i + 2) 0 + 16777216 * get_or s (i + 3) 0

-- what a record of each kind says, at the start of s
abbrev pub frame_at : List ℕ → Record
frame_at s = Frame (le4 s 2)

abbrev pub job_at : List ℕ → Record
job_at s = Job (le4 s 2) (get_or s 6 0) (get_or s 7 0)

abbrev pub segment_at : List ℕ → Record
segment_at s = Segment (le4 s 2) (le4 s 6) (le2 s 10)

-- the record, where s has all its bytes
unfoldable pub sized : List ℕ → ℕ → Record → Option Record
sized s size r = cond (leb size (length s)) (Some r) None

-- the record, where s starts with its mark and has all its bytes
unfoldable pub marked : List ℕ → ℕ → ℕ → Record → Option Record
marked s mark size r = cond (leb 2 (length s)) (cond (eqb (le2 s 0) mark) (sized s size r) None) None

-- the record that stands at the start of s, by the place: FR (46 52) where the table starts, JB (4A 42) where a job may start, SG (53 47) where a job still lacks segments
unfoldable pub record_at : Place → List ℕ → Option Record
record_at First s = marked s 0x5246 6 (frame_at s)
record_at Next s = marked s 0x424a 8 (job_at s)
record_at (Within n) s = marked s 0x4753 12 (segment_at s)

-- the bytes of a record, with its mark
abbrev pub size_of : Record → ℕ
size_of (Frame f) = 6
size_of (Job r b n) = 8
size_of (Segment l h m) = 12

-- what is due after a record: after FR a job or the end; after JB as many SG records as its count says; after an SG those that are left
abbrev pub due : ℕ → Place
due n = cond (eqb n 0) Next (Within n)

abbrev pub lacking : Place → ℕ
lacking First = 0
lacking Next = 0
lacking (Within n) = n

abbrev pub place_after : Place → Record → Place
place_after p (Frame f) = Next
place_after p (Job r b n) = due n
place_after p (Segment l h m) = due (lacking p - 1)

-- a table may end only where a job might start
abbrev pub may_end : Place → Bool
may_end First = false
may_end Next = true
may_end (Within n) = false

-- a record, and the place of its mark in the bytes
pub record Placed : Type 0 where
  pub at : ℕ
  pub what : Record

-- a reading: the records up to the end or to the first that cannot be read, whether that was the whole table, and the place where it stopped
pub record Reading : Type 0 where
  pub records : List Placed
  pub whole : Bool
  pub stop : ℕ

-- the bytes are at their end, where `p` is due at `at`
abbrev pub at_end : Place → ℕ → Reading
at_end p at = record { records = []; whole = may_end p; stop = at }

unfoldable pub ahead : Placed → Reading → Reading
ahead r x = record { records = r ∷ x.records; whole = x.whole; stop = x.stop }

-- a record that cannot be read ends the reading there
unfoldable pub goes_on : (Place → ℕ → List ℕ → Reading) → Place → ℕ → List ℕ → Option Record → Reading
goes_on rest p at s (Some r) = ahead (record { at = at; what = r }) (rest (place_after p r) (at + size_of r) (drop (size_of r) s))
goes_on rest p at s None = record { records = []; whole = false; stop = at }

-- the reading from `at` on, where s are the bytes from there on; n is any number that is not below their length
unfoldable pub read_from : ℕ → Place → ℕ → List ℕ → Reading
read_from zero p at s = at_end p at
read_from (suc n) p at s = cond (eqb (length s) 0) (at_end p at) (goes_on (read_from n) p at s (record_at p s))

-- the reading of a table
unfoldable pub reading_of : List ℕ → Reading
reading_of s = read_from (length s) First 0 s
