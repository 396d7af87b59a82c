-- Why a call declines, and the numbers for that (paper 01, 'Numbers returned when a call declines').
use Rattle.std.specs.Prelude.{ℕ, ◌≡◌, Result, Ok, Err, IsErrAnd}
use Rattle.table.specs.Refusal.{fault_number}
use Rattle.services.specs.declared.refusal.Refusal.{Refusal}
use Rattle.services.specs.declared.refusal.Refusal.TheVariants.{Table, Late, Times, Room, NoRun}

abbrev pub refusal_number : Refusal → ℕ
-- 1 to 4: what the table's bytes are refused for
refusal_number (Table fault) = fault_number fault
-- some run ends later than the frame length
refusal_number Late = 5
-- not exactly one time per segment, or one outside its bounds
refusal_number Times = 6
-- fewer words are lent than the answer needs
refusal_number Room = 7
-- the log is of no run
refusal_number NoRun = 8

-- declined, with this number
abbrev pub Declines : {A : Type 0} → Result A Refusal → ℕ → Type 0
Declines r n = IsErrAnd r (λ e. refusal_number e ≡ n)

-- an answer as a number: 0, or the refusal's
abbrev pub number_of : {A : Type 0} → Result A Refusal → ℕ
number_of (Ok x) = 0
number_of (Err e) = refusal_number e
