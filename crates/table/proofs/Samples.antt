-- Samples of paper 01 as they are read: cases 1 and 2, and the table of case 4 with the part of its second job.
use Prim.Native.Nat.{ℕ}
use mathlib.Core.Path.{◌≡◌, refl}
use mathlib.Core.List.{List, [], ◌∷◌, map}
use Rattle.table.specs.Records.{sized, marked, record_at, ahead, goes_on, read_from, reading_of}
use Rattle.table.specs.Table.{jobs_from}
use Rattle.table.specs.Refusal.{failing, refusal_in, refusal}
use Rattle.table.specs.Part.{has, start_of, length_of, part_of}

frame : List ℕ
frame = 0x46 ∷ 0x52 ∷ 10 ∷ 0 ∷ 0 ∷ 0 ∷ []

second_job : List ℕ
second_job = 0x4a ∷ 0x42 ∷ 3 ∷ 0 ∷ 0 ∷ 0 ∷ 2 ∷ 1 ∷ 0x53 ∷ 0x47 ∷ 1 ∷ 0 ∷ 0 ∷ 0 ∷ 1 ∷ 0 ∷ 0 ∷ 0 ∷ 0 ∷ 0 ∷ []

case_4 : List ℕ
case_4 =
    0x46 ∷ 0x52 ∷ 10 ∷ 0 ∷ 0 ∷ 0
    ∷ 0x4a ∷ 0x42 ∷ 0 ∷ 0 ∷ 0 ∷ 0 ∷ 1 ∷ 1 ∷ 0x53 ∷ 0x47 ∷ 2 ∷ 0 ∷ 0 ∷ 0 ∷ 4 ∷ 0 ∷ 0 ∷ 0 ∷ 0 ∷ 0
    ∷ 0x4a ∷ 0x42 ∷ 3 ∷ 0 ∷ 0 ∷ 0 ∷ 2 ∷ 1 ∷ 0x53 ∷ 0x47 ∷ 1 ∷ 0 ∷ 0 ∷ 0 ∷ 1 ∷ 0 ∷ 0 ∷ 0 ∷ 0 ∷ 0 ∷ []

-- a table, and the refusal that it draws
samples : List (List ℕ × ℕ)
samples = ([], 1) ∷ (frame, 4) ∷ (case_4, 0) ∷ []

refused_so : map (λ x. (refusal x.0).number) samples ≡ map (λ x. x.1) samples
unfolding samples frame case_4 refusal refusal_in reading_of read_from goes_on ahead record_at marked sized failing jobs_from
refused_so = refl

second_part : part_of case_4 1 ≡ second_job
unfolding case_4 second_job start_of length_of has refusal refusal_in reading_of read_from goes_on ahead record_at marked sized failing jobs_from
second_part = refl
