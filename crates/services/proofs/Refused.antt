-- A refusal is told by its number.
use Rattle.std.proofs.Common.{◌≡◌, ℕ, cond, eqb, Ok, Err, Result, sym, refl, ap, ◌∙◌}
use Rattle.table.specs.Refusal.{fault_of}
use Rattle.table.specs.declared.Fault.TheVariants.{Unreadable, OutOfBounds, OutOfOrder, Crowded}
use Rattle.services.specs.Refusals.{refusal_number, Declines}
use Rattle.services.specs.declared.refusal.Refusal.{Refusal}
use Rattle.services.specs.declared.refusal.Refusal.TheVariants.{Table, Late, Times, Room, NoRun}

-- the refusal with a number from 1 to 8
abbrev refusal_of : ℕ → Refusal
refusal_of n = cond (eqb n 5) Late (cond (eqb n 6) Times (cond (eqb n 7) Room (cond (eqb n 8) NoRun (Table (fault_of n)))))

is_of : (e : Refusal) → refusal_of (refusal_number e) ≡ e
is_of (Table Unreadable) = refl
is_of (Table OutOfBounds) = refl
is_of (Table OutOfOrder) = refl
is_of (Table Crowded) = refl
is_of Late = refl
is_of Times = refl
is_of Room = refl
is_of NoRun = refl

pub one_refusal : (e f : Refusal) → refusal_number e ≡ refusal_number f → e ≡ f
one_refusal e f q = sym (is_of e) ∙ ap refusal_of q ∙ is_of f

pub declines_once : {A : Type 0} (n : ℕ) (r s : Result A Refusal) → Declines r n → Declines s n → r ≡ s
declines_once n (Err e) (Err f) p q = ap Err (one_refusal e f (p ∙ sym q))
declines_once n (Ok x) s p q = absurd p
declines_once n (Err e) (Ok x) p q = absurd q
