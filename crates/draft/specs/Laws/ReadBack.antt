-- The bytes of records in the table's sequence read back as exactly these records.
use Rattle.std.specs.Prelude.{ℕ, zero, suc, ◌+◌, ◌*◌, ◌/◌, ◌%◌, ◌<◌, ◌≤◌, ◌≡◌, refl, true, Some, List, [], ◌∷◌, ◌++◌, length, drop}
use Rattle.std.proofs.Math.Nat.{div-div-eq-div-mul, div-add-mod}
use Rattle.std.proofs.Common.{mod-eq_of_lt, arith, sym, ◌∙◌, ap, length-append, le-leb, ne_eqb}
use Rattle.draft.specs.Bytes.{record_bytes, bytes_of}
use Rattle.draft.specs.Sequence.{Fits, Stands, frame, job, segment, Leads, placed_from}
use Rattle.table.specs.Records.{Reading, sized, marked, record_at, size_of, place_after, ahead, goes_on, read_from, reading_of}
use Rattle.table.specs.declared.records.Place.{Place}
use Rattle.table.specs.declared.records.Place.TheVariants.{First, Next, Within}
use Rattle.table.specs.declared.records.Record.{Record}
use Rattle.table.specs.declared.records.Record.TheVariants.{Frame, Job, Segment}

-- a number is that of its bytes
four_back : (n : ℕ) → n < 4294967296 → n % 256 + 256 * (n / 256 % 256) + 65536 * (n / 65536 % 256) + 16777216 * (n / 16777216 % 256) ≡ n
four_back n h =
    let b : n / 65536 ≡ n / 256 / 256 = sym (div-div-eq-div-mul n 256 256) in
    let c : n / 16777216 ≡ n / 65536 / 256 = sym (div-div-eq-div-mul n 65536 256) in
    let top : n / 16777216 < 256 = omega arith in
    omega (arith, div-add-mod n 256, div-add-mod (n / 256) 256, div-add-mod (n / 65536) 256, mod-eq_of_lt top)

two_back : (n : ℕ) → n < 65536 → n % 256 + 256 * (n / 256 % 256) ≡ n
two_back n h = omega arith

-- the record stands at the start of its bytes
record_back : (p : Place) (r : Record) (rest : List ℕ) → Stands p r → Fits r → record_at p (record_bytes r ++ rest) ≡ Some r
unfolding record_at marked sized record_bytes
record_back First (Frame f) rest frame h =
    let s = record_bytes (Frame f) ++ rest in
    rw (le-leb 2 (length s) (omega arith), le-leb 6 (length s) (omega arith), four_back f h)
record_back Next (Job r p n) rest job h =
    let s = record_bytes (Job r p n) ++ rest in
    rw (le-leb 2 (length s) (omega arith), le-leb 8 (length s) (omega arith), four_back r h.0)
record_back (Within k) (Segment a b m) rest segment h =
    let s = record_bytes (Segment a b m) ++ rest in
    rw (le-leb 2 (length s) (omega arith), le-leb 12 (length s) (omega arith), four_back a h.0, four_back b h.1, two_back m h.2)
-- no other record may stand there
record_back First (Job r p n) rest none h = elim none [ ]
record_back First (Segment a b m) rest none h = elim none [ ]
record_back Next (Frame f) rest none h = elim none [ ]
record_back Next (Segment a b m) rest none h = elim none [ ]
record_back (Within k) (Frame f) rest none h = elim none [ ]
record_back (Within k) (Job r p n) rest none h = elim none [ ]

-- its bytes are as many as its size
pub record_size : (r : Record) → length (record_bytes r) ≡ size_of r
unfolding record_bytes
record_size (Frame f) = refl
record_size (Job r p n) = refl
record_size (Segment l h m) = refl

pub size_pos : (r : Record) → 0 < size_of r
size_pos (Frame f) = omega arith
size_pos (Job r p n) = omega arith
size_pos (Segment l h m) = omega arith

rest_back : (r : Record) (rest : List ℕ) → drop (size_of r) (record_bytes r ++ rest) ≡ rest
unfolding record_bytes
rest_back (Frame f) rest = refl
rest_back (Job r p n) rest = refl
rest_back (Segment l h m) rest = refl

some_bytes : (r : Record) (rest : List ℕ) → 0 < length (record_bytes r ++ rest)
unfolding record_bytes
some_bytes (Frame f) rest = omega arith
some_bytes (Job r p n) rest = omega arith
some_bytes (Segment l h m) rest = omega arith

-- a whole reading of these records, which ends at `stop`
abbrev pub read_whole : (at : ℕ) → List Record → (stop : ℕ) → Reading
read_whole at rs stop = record { records = placed_from at rs; whole = true; stop = stop }

-- the reading where no byte is left, and one record further
reads_end : (n : ℕ) (p : Place) (at stop : ℕ) → p ≡ Next → stop ≡ at → read_from n p at [] ≡ read_whole at [] stop
unfolding read_from placed_from
reads_end zero p at stop l e = rw (l, e)
reads_end (suc n) p at stop l e = rw (l, e)

reads_step : (n : ℕ) (p : Place) (at : ℕ) (r : Record) (rest : List ℕ) → Stands p r → Fits r
    → read_from (suc n) p at (record_bytes r ++ rest) ≡ ahead (record { at = at; what = r }) (read_from n (place_after p r) (at + size_of r) rest)
unfolding read_from goes_on
reads_step n p at r rest d f =
    let h : 0 < length (record_bytes r ++ rest) = some_bytes r rest in
    rw (ne_eqb (length (record_bytes r ++ rest)) 0 (λ q. omega arith), record_back p r rest d f)
    (ap (λ (s : List ℕ). ahead (record { at = at; what = r }) (read_from n (place_after p r) (at + size_of r) s)) (rest_back r rest))

reads_from : (n : ℕ) (p : Place) (at : ℕ) (rs : List Record) (stop : ℕ) → length (bytes_of rs) ≤ n → stop ≡ at + length (bytes_of rs) → Leads p rs Next
    → read_from n p at (bytes_of rs) ≡ read_whole at rs stop
unfolding bytes_of placed_from Leads ahead
reads_from n p at [] stop h e l = reads_end n p at stop l (omega arith)
reads_from zero p at (r ∷ rs) stop h e l = absurd (omega (arith, some_bytes r (bytes_of rs)))
reads_from (suc n) p at (r ∷ rs) stop h e l =
    let size : length (record_bytes r ++ bytes_of rs) ≡ size_of r + length (bytes_of rs) = length-append (record_bytes r) (bytes_of rs) ∙ rw (record_size r) in
    let some : 0 < size_of r = size_pos r in
    reads_step n p at r (bytes_of rs) l.0 l.1
    ∙ ap (ahead (record { at = at; what = r })) (reads_from n (place_after p r) (at + size_of r) rs stop (omega (arith, size, h, some)) (omega (arith, size, e)) l.2)

-- the bytes of records in the table's sequence read whole as exactly these records
pub reads_back : (rs : List Record) → Leads First rs Next → reading_of (bytes_of rs) ≡ read_whole 0 rs (length (bytes_of rs))
unfolding reading_of
reads_back rs l = reads_from (length (bytes_of rs)) First 0 rs (length (bytes_of rs)) (omega arith) (omega arith) l
