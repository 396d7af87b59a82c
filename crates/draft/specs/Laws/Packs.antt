-- What packing answers, path by path.
use Rattle.std.specs.Prelude.{ℕ, zero, suc, ◌+◌, ◌≤◌, ◌≡◌, List, get_or, replicate, Ok, Err}
use Rattle.std.proofs.Common.{arith, sym, ◌∙◌, take_all}
use Rattle.std.proofs.Math.Path.{refl, ap}
use Rattle.std.proofs.Math.ListN.{length}
use Rattle.std.proofs.lemmas.List.Edits.{sets, sets-eq}
use Rattle.std.proofs.lemmas.Slice.{put_mid-paste}
use borrow.Rule.Slice.PartMut.{put_mid}
use borrow.Author.Tests.{eq-eqb, ne_eqb}
use Rattle.draft.specs.Text.{draw_of, lined_bytes, says_of}
use Rattle.draft.specs.Packing.{or_last, pack_of, Gives}
use Rattle.draft.specs.Drafts.{Holds, Refuses}
use Rattle.draft.specs.Laws.TextLines.{cause_some}
use Rattle.draft.specs.declared.cause.Cause.TheVariants as Cause
use Rattle.draft.specs.declared.cause.Refused.{Refused}
use Rattle.draft.specs.declared.draft.Draft.{Draft}
use Rattle.table.specs.Refusal.{fault_number, refusal, outcome_of}
use Rattle.table.specs.declared.Fault.{Fault}
use Rattle.table.specs.declared.Fault.TheVariants.{Unreadable, OutOfBounds, OutOfOrder, Crowded}
use Rattle.table.specs.declared.Table.{Table}
use Rattle.table.specs.declared.Refused.{Refused as Declined}
use Rattle.table.proofs.Whole.{ok_is, err_is}

-- an array of zeros
pub zeros : (n k : ℕ) → ◌≡◌ {A = ℕ} (get_or (replicate n 0) k 0) 0
zeros zero k = refl
zeros (suc n) zero = refl
zeros (suc n) (suc k) = zeros n k

-- the text is refused before a table is read
pub pack_refused : (s before : List ℕ) (e : Refused) → Refuses e (draw_of s) → Gives before before (Err e) (pack_of s)
unfolding pack_of says_of
pack_refused s before e r =
    rw (ne_eqb (draw_of s).cause 0 (λ (z : (draw_of s).cause ≡ 0). omega (arith, cause_some e.cause, r.0, z))) (r.0, r.1, refl)

-- a part of a list written from another of its length
pub part_written : (a k : ℕ) (xs ys zs : List ℕ) → k ≡ length zs → ys ≡ zs → a + length zs ≤ length xs → put_mid a k xs ys ≡ sets xs a zs
part_written a k xs ys zs e f h = put_mid-paste a k xs ys zs (length zs) f (sym e) refl ∙ rw (sets-eq zs xs a h, take_all (length zs) zs (omega arith))

-- there are four refusals of a table
fault_small : (f : Fault) → fault_number f ≤ 4
fault_small Unreadable = omega arith
fault_small OutOfBounds = omega arith
fault_small OutOfOrder = omega arith
fault_small Crowded = omega arith

module _ (s : List ℕ) (d : Draft) (h : Holds d (draw_of s)) where
  abbrev bytes : List ℕ
  bytes = lined_bytes (says_of s).records

  -- the bytes made are those of the records
  made_is : d.made.items ≡ bytes
  unfolding says_of
  made_is = h.bytes

  pub pack_small : (part : List ℕ) (r : Declined) → part ≡ d.made.items → Err r ≡ outcome_of part → (fault_number r.fault ≡ (refusal bytes).number) × ((refusal bytes).number ≤ 4)
  pack_small part r p e =
      let is = err_is bytes r (e ∙ ap outcome_of (p ∙ made_is)) in
      (is.1, rw (← is.1) (fault_small r.fault))

  pub pack_judged : (before part : List ℕ) (r : Declined) (line : ℕ) → part ≡ d.made.items → Err r ≡ outcome_of part → line ≡ or_last (get_or d.lines r.place 0) d.line
      → Gives before before (Err (record { cause = Cause.Table r.fault; line = line })) (pack_of s)
  unfolding pack_of says_of
  pack_judged before part r line p e q =
      let is = err_is bytes r (e ∙ ap outcome_of (p ∙ made_is)) in
      rw (eq-eqb (draw_of s).cause 0 h.cause, ne_eqb (refusal bytes).number 0 is.0)
      (ap (λ (n : ℕ). 20 + n) is.1, q ∙ rw (is.2, h.noted (refusal bytes).place, h.line), refl)

  pub pack_whole : (before after part : List ℕ) (t : Table) → part ≡ d.made.items → Ok t ≡ outcome_of part → after ≡ sets before 0 part
      → Gives before after (Ok (length part)) (pack_of s)
  unfolding pack_of says_of
  pack_whole before after part t p e f =
      let is = ok_is bytes t (e ∙ ap outcome_of (p ∙ made_is)) in
      let same : part ≡ bytes = p ∙ made_is in
      rw (eq-eqb (draw_of s).cause 0 h.cause, eq-eqb (refusal bytes).number 0 is.0) (refl, ap length same, f ∙ ap (sets before 0) same)
