-- Induction over a reading that is whole, and what an accepted table is known for.
use Prim.Native.Nat.{ℕ, zero, suc, ◌+◌, ◌<◌}
use native.Mathlib.Omega.{arith}
use mathlib.Core.Path.{◌≡◌, refl, sym, ap}
use mathlib.Core.List.{List, [], ◌∷◌, ◌++◌}
use mathlib.Core.Bool.{Bool, true, false, cond}
use lib.ListN.{length, get_or, drop}
use lib.Dec.{ltb, eqb}
use borrow.Author.Tests.{eqb-true, eqb-false, eq-eqb}
use Rattle.table.specs.Records.{Placed, record_at, size_of, due, lacking, place_after, may_end, Reading, at_end, ahead, goes_on, read_from, reading_of}
use Rattle.table.specs.Table.{jobs_of, padded, recorded}
use Rattle.table.specs.Refusal.{nothing, outside, earlier, beyond, when, failing, Refusal, or_else, refusal_in, refusal, fault_number, fault_of, answer, outcome_of}
use Rattle.table.specs.declared.Refused.{Refused}
use Rattle.table.specs.declared.Table.{Table}
use Rattle.table.specs.declared.records.Place.{Place}
use Rattle.table.specs.declared.records.Place.TheVariants.{First, Next, Within}
use Rattle.table.specs.declared.records.Record.{Record}
use Rattle.table.specs.declared.records.Record.TheVariants.{Frame, Job}
use Rattle.std.specs.Prelude.{Option, Some, None, Ok, Err, ◌≢◌}
use Rattle.table.proofs.Walk.{marked_whole}

-- ---- what is due

pub lacking_due : (n : ℕ) → lacking (due n) ≡ n
lacking_due n = go (eqb n 0) refl
  where
    go : (b : Bool) → eqb n 0 ≡ b → lacking (cond b Next (Within n)) ≡ n
    go true q = sym (eqb-true n 0 q)
    go false q = refl

pub ended_lacks : (p : Place) → may_end p ≡ true → lacking p ≡ 0
ended_lacks First e = refl
ended_lacks Next e = refl
ended_lacks (Within n) e = cc

-- where a segment is due, no other record is read
pub not_frame : (n : ℕ) (s : List ℕ) (f : ℕ) → record_at (Within n) s ≡ Some (Frame f) → ⊥
unfolding record_at
not_frame n s f e = let q = (marked_whole s _ _ _ _ e).0 in cc

pub not_job : (n : ℕ) (s : List ℕ) (a b m : ℕ) → record_at (Within n) s ≡ Some (Job a b m) → ⊥
unfolding record_at
not_job n s a b m e = let q = (marked_whole s _ _ _ _ e).0 in cc

-- ---- induction: the records stand from a place on

module _ (P : Place → ℕ → List ℕ → List Placed → Type 0) (base : (p : Place) (at : ℕ) (s : List ℕ) → may_end p ≡ true → P p at s [])
    (step : (p : Place) (at : ℕ) (s : List ℕ) (r : Record) (rs : List Placed) → record_at p s ≡ Some r
    → P (place_after p r) (at + size_of r) (drop (size_of r) s) rs → P p at s (record { at = at; what = r } ∷ rs)) where
  one : (rest : Place → ℕ → List ℕ → Reading) → ((p : Place) (at : ℕ) (s : List ℕ) → (rest p at s).whole ≡ true → P p at s (rest p at s).records)
      → (p : Place) (at : ℕ) (s : List ℕ) (b : Bool) (a : Option Record) → record_at p s ≡ a
      → (cond b (at_end p at) (goes_on rest p at s a)).whole ≡ true → P p at s (cond b (at_end p at) (goes_on rest p at s a)).records
  unfolding goes_on ahead
  one rest ih p at s true a q w = base p at s w
  one rest ih p at s false (Some r) q w = step p at s r _ q (ih (place_after p r) (at + size_of r) (drop (size_of r) s) w)
  one rest ih p at s false None q w = cc

  pub each : (n : ℕ) (p : Place) (at : ℕ) (s : List ℕ) → (read_from n p at s).whole ≡ true → P p at s (read_from n p at s).records
  unfolding read_from
  each zero p at s w = base p at s w
  each (suc n) p at s w = one (read_from n) (each n) p at s (eqb (length s) 0) (record_at p s) refl w

-- ---- an accepted table

-- none of the four has a place
first_none : (n : ℕ) (ats : List ℕ) (later : Refusal) → 0 < n → (or_else n ats later).number ≡ 0 → (ats ≡ []) × (later.number ≡ 0)
first_none n [] later h e = (refl, e)
first_none n (x ∷ xs) later h e = absurd (omega arith)

both_none : (xs ys : List ℕ) → xs ++ ys ≡ [] → (xs ≡ []) × (ys ≡ [])
both_none [] ys e = (refl, e)
both_none (x ∷ xs) ys e = cc

when_none : (b : Bool) (at : ℕ) → when b at ≡ [] → b ≡ false
when_none true at e = cc
when_none false at e = refl

whole_none : (b : Bool) (at : ℕ) → cond b [] (at ∷ []) ≡ [] → b ≡ true
whole_none true at e = refl
whole_none false at e = cc

short : (b : Bool) (x y : Refusal) → 0 < x.number → (cond b x y).number ≡ 0 → y.number ≡ 0
short true x y h e = absurd (omega arith)
short false x y h e = e

pub record Accepted (s : List ℕ) : Type 0 where
  pub whole : (reading_of s).whole ≡ true
  pub bounds : failing outside nothing (reading_of s).records ≡ []
  pub order : failing earlier nothing (reading_of s).records ≡ []
  pub some : length (jobs_of (reading_of s).records) ≡ 0 → ⊥
  pub few : failing beyond nothing (reading_of s).records ≡ []

pub accepted : (s : List ℕ) → (refusal s).number ≡ 0 → Accepted s
unfolding refusal refusal_in
accepted s z =
    let rs = (reading_of s).records in
    let (a, e1) = first_none 1 (cond (reading_of s).whole [] ((reading_of s).stop ∷ [])) _ (omega arith) (short (ltb 4096 (length s)) _ _ (omega arith) z) in
    let (b, e2) = first_none 2 (failing outside nothing rs) _ (omega arith) e1 in
    let (c, e3) = first_none 3 (failing earlier nothing rs) _ (omega arith) e2 in
    let (d, e4) = first_none 4 (when (eqb (length (jobs_of rs)) 0) (length s) ++ failing beyond nothing rs) _ (omega arith) e3 in
    let (f, g) = both_none (when (eqb (length (jobs_of rs)) 0) (length s)) (failing beyond nothing rs) d in
    record {
      whole = whole_none (reading_of s).whole (reading_of s).stop a;
      bounds = b;
      order = c;
      some = eqb-false (length (jobs_of rs)) 0 (when_none (eqb (length (jobs_of rs)) 0) (length s) f);
      few = g;
    }

-- no record of the list fails the test: neither the first nor a later one
pub passes : (test : Bool) (at : ℕ) (later : List ℕ) → when test at ++ later ≡ [] → (test ≡ false) × (later ≡ [])
passes test at later e = let (a, b) = both_none (when test at) later e in (when_none test at a, b)

-- a row of the table at a place that it has
pub get_or_padded : {E : Type 0} (n : ℕ) (filler : E) (xs : List E) (j : ℕ) → j < n → get_or (padded n filler xs) j filler ≡ get_or xs j filler
unfolding padded
get_or_padded zero filler xs j h = absurd (omega arith)
get_or_padded (suc n) filler [] zero h = refl
get_or_padded (suc n) filler [] (suc j) h = get_or_padded n filler [] j (omega arith)
get_or_padded (suc n) filler (x ∷ xs) zero h = refl
get_or_padded (suc n) filler (x ∷ xs) (suc j) h = get_or_padded n filler xs j (omega arith)

-- ---- the answer's parts

abbrev refused : Refusal → Refused
refused n = record { fault = fault_of n.number; place = n.place }

module _ (n : Refusal) (t : Table) where
  answer_ok : (u : Table) → Ok u ≡ answer n t → (n.number ≡ 0) × (u ≡ t)
  unfolding answer
  answer_ok u = go (eqb n.number 0) refl
    where
      go : (b : Bool) → eqb n.number 0 ≡ b → Ok u ≡ cond b (Ok t) (Err (refused n)) → (n.number ≡ 0) × (u ≡ t)
      go true q e = (eqb-true n.number 0 q, cc)
      go false q e = cc

  answer_err : (r : Refused) → Err r ≡ answer n t → (n.number ≢ 0) × (r ≡ refused n)
  unfolding answer
  answer_err r = go (eqb n.number 0) refl
    where
      go : (b : Bool) → eqb n.number 0 ≡ b → Err r ≡ cond b (Ok t) (Err (refused n))
          → (n.number ≢ 0) × (r ≡ refused n)
      go true q e = cc
      go false q e = (eqb-false n.number 0 q, cc)

-- a refusal has the number of a fault, or 0
abbrev Named : Refusal → Type 0
Named n = n.number ≢ 0 → fault_number (fault_of n.number) ≡ n.number

named_else : (n : ℕ) (ats : List ℕ) (later : Refusal) → fault_number (fault_of n) ≡ n → Named later → Named (or_else n ats later)
named_else n [] later e h = h
named_else n (x ∷ xs) later e h = λ d. e

named : (s : List ℕ) → Named (refusal s)
unfolding refusal refusal_in
named s = go (ltb 4096 (length s))
  where
    go : (b : Bool) → Named (cond b (record { number = 1; place = 4096 }) (refusal_in (length s) (reading_of s)))
    go true = λ d. refl
    go false = named_else 1 _ _ refl (named_else 2 _ _ refl (named_else 3 _ _ refl (named_else 4 _ _ refl (λ d. absurd (d refl)))))

-- for a caller of `Table::read`: what its answer says of the refusal
module _ (s : List ℕ) where
  pub ok_is : (t : Table) → Ok t ≡ outcome_of s → ((refusal s).number ≡ 0) × (t ≡ recorded (reading_of s).records)
  unfolding outcome_of
  ok_is t e = answer_ok (refusal s) (recorded (reading_of s).records) t e

  pub err_is : (r : Refused) → Err r ≡ outcome_of s → ((refusal s).number ≢ 0) × (fault_number r.fault ≡ (refusal s).number) × (r.place ≡ (refusal s).place)
  unfolding outcome_of
  err_is r e = let (d, q) = answer_err (refusal s) (recorded (reading_of s).records) r e in (d, rw q (named s d), ap (λ (x : Refused). x.place) q)

  pub accepted_is : (refusal s).number ≡ 0 → outcome_of s ≡ Ok (recorded (reading_of s).records)
  unfolding outcome_of answer
  accepted_is z = rw (eq-eqb (refusal s).number 0 z)
