-- Which refusal a reading draws: what the code judges by what it kept of the records is the answer to the reading.
use Prim.Native.Nat.{ℕ, ◌-◌, ◌<◌, ◌≤◌}
use native.Mathlib.Omega.{arith}
use mathlib.Core.Path.{◌≡◌, refl, sym, ◌∙◌, ap}
use mathlib.Core.List.{List, [], ◌∷◌, ◌++◌}
use mathlib.Core.Bool.{Bool, true, false, cond}
use lib.ListN.{length, take, drop}
use lib.Dec.{eqb}
use borrow.Author.Tests.{le-ltb, lt-ltb}
use Rattle.std.specs.Prelude.{None, Result, Ok, Err}
use Rattle.table.specs.Records.{record_at, Placed, Reading, may_end, reading_of}
use Rattle.table.specs.Table.{jobs_of, table_from, recorded}
use Rattle.table.specs.Refusal.{nothing, outside, earlier, beyond, when, failing, or_else, refusal_in, refusal, answer, outcome_of}
use Rattle.table.specs.Steps.{known_of, first_of, scan_of, ended_at, judged}
use Rattle.table.specs.declared.Fault.TheVariants.{Unreadable}
use Rattle.table.specs.declared.Refused.{Refused}
use Rattle.table.specs.declared.Table.{Table}
use Rattle.table.specs.declared.scan.Scan.{Scan}
use Rattle.table.specs.declared.records.Place.{Place}
use Rattle.table.proofs.Walk.{Went, stop, told, finish}

-- a table, where it is not refused
if_judged : Table → Result (Unit {0}) Refused → Result Table Refused
if_judged t (Ok u) = Ok t
if_judged t (Err r) = Err r

-- the first place of each kind decides
decided : (t : Table) (whole none : Bool) (a b d : List ℕ) (release jobs end : ℕ) → eqb jobs 0 ≡ none
    → if_judged t (judged whole (record { release = release; faulty = first_of a; early = first_of b; beyond = first_of d }) jobs end)
    ≡ answer (or_else 1 (cond whole [] (end ∷ [])) (or_else 2 a (or_else 3 b (or_else 4 (when none end ++ d) (record { number = 0; place = 0 }))))) t
unfolding if_judged answer
decided t false none a b d release jobs end e = refl
decided t true none (x ∷ a) b d release jobs end e = refl
decided t true none [] (x ∷ b) d release jobs end e = refl
decided t true true [] [] d release jobs end e = rw e refl
decided t true false [] [] (x ∷ d) release jobs end e = rw e refl
decided t true false [] [] [] release jobs end e = rw e refl

judged_so : (rs : List Placed) (p : Place) (end : ℕ) → if_judged (recorded rs) (judged (may_end p) (scan_of rs) (recorded rs).jobs end) ≡ answer (refusal_in end (ended_at rs p end)) (recorded rs)
unfolding refusal_in ended_at scan_of recorded table_from
judged_so rs p end =
    decided (recorded rs) (may_end p) (eqb (length (jobs_of rs)) 0) (failing outside nothing rs) (failing earlier nothing rs) (failing beyond nothing rs) (known_of nothing rs).release (length (jobs_of rs)) end refl

-- the whole answer, by the length
pub too_long : (s : List ℕ) → 4096 < length s → Err (record { fault = Unreadable; place = 4096 }) ≡ outcome_of s
unfolding outcome_of refusal answer
too_long s h = rw (lt-ltb 4096 (length s) h)

pub not_long : (s : List ℕ) → length s ≤ 4096 → answer (refusal_in (length s) (reading_of s)) (recorded (reading_of s).records) ≡ outcome_of s
unfolding outcome_of refusal
not_long s h = rw (le-ltb 4096 (length s) h)

pub not_whole : (s : List ℕ) (at : ℕ) → length s ≤ 4096 → ((reading_of s).whole ≡ false) × ((reading_of s).stop ≡ at)
    → Err (record { fault = Unreadable; place = at }) ≡ outcome_of s
unfolding refusal_in answer
not_whole s at h e = sym (rw (e.0, e.1)) ∙ not_long s h

-- where a record cannot be read
pub cut_off : {s : List ℕ} {t : Table} {x : Scan} {p : Place} {at : ℕ} → Went s t x p at → at < length s → length s ≤ 4096
    → None ≡ record_at p (take (length s - at) (drop at s)) → Err (record { fault = Unreadable; place = at }) ≡ outcome_of s
cut_off {s} {t} {x} {p} {at} w h l e = not_whole s at l (stop w h (told s at p None e))

-- at the end of the bytes
module _ {s : List ℕ} {t : Table} {x : Scan} {p : Place} {at : ℕ} (w : Went s t x p at) (h : length s ≤ at) (l : length s ≤ 4096) where
  drawn : if_judged t (judged (may_end p) x t.jobs at) ≡ outcome_of s
  unfolding ended_at
  drawn = rw (w.table, w.scan) (judged_so w.done p at)
      ∙ ap (λ (n : ℕ). answer (refusal_in n (ended_at w.done p at)) (recorded w.done)) (let e : at ≡ length s = omega (arith, w.inside) in e)
      ∙ ap (λ (y : Reading). answer (refusal_in (length s) y) (recorded y.records)) (sym (finish w h))
      ∙ not_long s l

  -- a table that is judged whole, and one that is refused
  pub passed : (u : Unit {0}) → Ok u ≡ judged (may_end p) x t.jobs at → Ok t ≡ outcome_of s
  unfolding if_judged
  passed u e = ap (if_judged t) e ∙ drawn

  pub refused : (r : Refused) → Err r ≡ judged (may_end p) x t.jobs at → Err r ≡ outcome_of s
  unfolding if_judged
  refused r e = ap (if_judged t) e ∙ drawn
