-- What `pack` promises leaves one answer.
use Rattle.std.specs.Prelude.{ℕ, ◌-◌, ◌≡◌, ◌≢◌, cond, eqb, Result, Ok, Err, List}
use Rattle.std.proofs.Common.{arith, refl, sym, ap, ◌∙◌}
use Rattle.table.specs.Refusal.{fault_of}
use Rattle.table.specs.declared.Fault.TheVariants.{Unreadable, OutOfBounds, OutOfOrder, Crowded}
use Rattle.draft.specs.Cause.{cause_number}
use Rattle.draft.specs.Packing.{Answer, Gives}
use Rattle.draft.specs.declared.cause.Cause.{Cause}
use Rattle.draft.specs.declared.cause.Cause.TheVariants.{UnknownLine, BadNumber, BadWord, Trailing, FrameMisplaced, SegmentMisplaced, SegmentCount, TooManyLocks, TooLong, Empty, Table}
use Rattle.draft.specs.declared.cause.Refused.{Refused}

-- the cause of a number, as far as causes have one
unfoldable cause_of : ℕ → Cause
cause_of n =
    cond (eqb n 1) UnknownLine (cond (eqb n 2) BadNumber (cond (eqb n 3) BadWord (cond (eqb n 4) Trailing (cond (eqb n 5) FrameMisplaced
    (cond (eqb n 6) SegmentMisplaced (cond (eqb n 7) SegmentCount (cond (eqb n 8) TooManyLocks (cond (eqb n 9) TooLong
    (cond (eqb n 10) Empty (Table (fault_of (n - 20))))))))))))

is_of : (c : Cause) → cause_of (cause_number c) ≡ c
unfolding cause_of
is_of UnknownLine = refl
is_of BadNumber = refl
is_of BadWord = refl
is_of Trailing = refl
is_of FrameMisplaced = refl
is_of SegmentMisplaced = refl
is_of SegmentCount = refl
is_of TooManyLocks = refl
is_of TooLong = refl
is_of Empty = refl
is_of (Table Unreadable) = refl
is_of (Table OutOfBounds) = refl
is_of (Table OutOfOrder) = refl
is_of (Table Crowded) = refl

-- a cause is told by its number
pub one_cause : (c d : Cause) → cause_number c ≡ cause_number d → c ≡ d
one_cause c d e = sym (is_of c) ∙ ap cause_of e ∙ is_of d

-- and is never 0
number_some : (c : Cause) → cause_number c ≢ 0
number_some UnknownLine e = omega (arith, e)
number_some BadNumber e = omega (arith, e)
number_some BadWord e = omega (arith, e)
number_some Trailing e = omega (arith, e)
number_some FrameMisplaced e = omega (arith, e)
number_some SegmentMisplaced e = omega (arith, e)
number_some SegmentCount e = omega (arith, e)
number_some TooManyLocks e = omega (arith, e)
number_some TooLong e = omega (arith, e)
number_some Empty e = omega (arith, e)
number_some (Table f) e = omega (arith, e)

refused_same : (d e : Refused) → cause_number d.cause ≡ cause_number e.cause → d.line ≡ e.line → d ≡ e
refused_same d e p q = λ i. record { cause = one_cause d.cause e.cause p i; line = q i }

-- two results that keep the promise for the same text and the same lent bytes are equal, and so are the bytes after them
pub pack_once : (before after more : List ℕ) (r s : Result ℕ Refused) (a : Answer) → Gives before after r a → Gives before more s a → (r ≡ s) × (after ≡ more)
pack_once before after more (Ok n) (Ok m) a P Q = (ap Ok (P.1 ∙ sym Q.1), P.2 ∙ sym Q.2)
pack_once before after more (Ok n) (Err e) a P Q = absurd (number_some e.cause (Q.0 ∙ P.0))
pack_once before after more (Err e) (Ok n) a P Q = absurd (number_some e.cause (P.0 ∙ Q.0))
pack_once before after more (Err d) (Err e) a P Q = (ap Err (refused_same d e (P.0 ∙ sym Q.0) (P.1 ∙ sym Q.1)), P.2 ∙ sym Q.2)
