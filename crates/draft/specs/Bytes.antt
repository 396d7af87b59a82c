-- The bytes of a table's records (paper 01, 'Table bytes').
use Rattle.std.specs.Prelude.{ℕ, ◌/◌, ◌%◌, List, [], ◌∷◌, ◌++◌}
use Rattle.table.specs.declared.records.Record.{Record}
use Rattle.table.specs.declared.records.Record.TheVariants.{Frame, Job, Segment}

-- four and two bytes of a number, little-endian
abbrev pub four : ℕ → List ℕ
four n = n % 256 ∷ n / 256 % 256 ∷ n / 65536 % 256 ∷ n / 16777216 % 256 ∷ []

abbrev pub two : ℕ → List ℕ
two n = n % 256 ∷ n / 256 % 256 ∷ []

-- FR (46 52) frame 4; JB (4A 42) release 4, priority 1, segment count 1; SG (53 47) shortest 4, longest 4, held locks 2
unfoldable pub record_bytes : Record → List ℕ
record_bytes (Frame f) = 0x46 ∷ 0x52 ∷ four f
record_bytes (Job r p n) = (0x4a ∷ 0x42 ∷ four r) ++ p ∷ n ∷ []
record_bytes (Segment l h m) = (0x53 ∷ 0x47 ∷ four l) ++ four h ++ two m

unfoldable pub bytes_of : List Record → List ℕ
bytes_of [] = []
bytes_of (r ∷ rs) = record_bytes r ++ bytes_of rs
