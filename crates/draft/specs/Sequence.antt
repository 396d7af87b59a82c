-- Records in the table's sequence, with right counts and numbers that fit their fields; and their places in the bytes.
use Rattle.std.specs.Prelude.{ℕ, ◌+◌, ◌<◌, ◌≡◌, List, [], ◌∷◌}
use Rattle.table.specs.Records.{Placed, size_of, place_after}
use Rattle.table.specs.declared.records.Place.{Place}
use Rattle.table.specs.declared.records.Place.TheVariants.{First, Next, Within}
use Rattle.table.specs.declared.records.Record.{Record}
use Rattle.table.specs.declared.records.Record.TheVariants.{Frame, Job, Segment}

-- the numbers of a record fit their fields
abbrev pub Fits : Record → Type 0
Fits (Frame f) = f < 4294967296
Fits (Job r p n) = (r < 4294967296) × (p < 256) × (n < 256)
Fits (Segment l h m) = (l < 4294967296) × (h < 4294967296) × (m < 65536)

-- a record may stand where this is due
pub data Stands : Place → Record → Type 0 where
  frame : {f : ℕ} → Stands First (Frame f)
  job : {r p n : ℕ} → Stands Next (Job r p n)
  segment : {k l h m : ℕ} → Stands (Within k) (Segment l h m)

-- the records may stand one after the other from where p is due, and after them q is due
unfoldable pub Leads : Place → List Record → Place → Type 0
Leads p [] q = p ≡ q
Leads p (r ∷ rs) q = Stands p r × Fits r × Leads (place_after p r) rs q

-- the records, with the places of their marks, the first at `at`
unfoldable pub placed_from : ℕ → List Record → List Placed
placed_from at [] = []
placed_from at (r ∷ rs) = record { at = at; what = r } ∷ placed_from (at + size_of r) rs
