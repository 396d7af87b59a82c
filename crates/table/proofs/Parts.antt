-- A job's part lies within the table: its mark and its span, as the table's rows have them, are those of the records.
use Prim.Native.Nat.{ℕ, zero, suc, ◌+◌, ◌*◌, ◌-◌, ◌<◌, ◌≤◌}
use native.Mathlib.Nat.{add-sub_cancel_left}
use native.Mathlib.Omega.{arith}
use mathlib.Core.Path.{◌≡◌, refl, sym, ◌∙◌, ap}
use mathlib.Core.List.{List, [], ◌∷◌}
use mathlib.Core.Bool.{Bool, true, false}
use lib.ListN.{length, get_or, drop, length-drop}
use lib.Dec.{ltb, eqb}
use borrow.Author.Tests.{eq-eqb, ne_eqb, lt-ltb, le-ltb, eqb-true, ltb-true}
use Rattle.std.proofs.lemmas.Bool.{and_parts}
use Rattle.std.specs.Prelude.{Some, Ok, Err}
use denote.Ref.{Bor}
use borrow.Rule.Slice.PartAt.{sl_partˢ}
use Rattle.table.specs.Records.{Placed, record_at, size_of, due, lacking, place_after, may_end, reading_of}
use Rattle.table.specs.Table.{no_job, the_job, jobs_from, table_from, recorded}
use Rattle.table.specs.Refusal.{refusal, outcome_of}
use Rattle.table.specs.Part.{jobs_in, has, start_of, length_of, part_of, Lies}
use Rattle.table.specs.declared.Extent.{Extent}
use Rattle.table.specs.declared.Refused.{Refused}
use Rattle.table.specs.declared.Table.{Table}
use Rattle.table.specs.declared.records.Place.{Place}
use Rattle.table.specs.declared.records.Place.TheVariants.{First, Next, Within}
use Rattle.table.specs.declared.records.Record.{Record}
use Rattle.table.specs.declared.records.Record.TheVariants.{Frame, Job, Segment}
use Rattle.table.proofs.Walk.{record_fits}
use Rattle.table.proofs.Whole.{lacking_due, ended_lacks, not_frame, not_job, each, accepted, get_or_padded, ok_is, err_is}
use Rattle.table.proofs.Sound.{few_jobs}

-- a reading that is whole has the bytes of the segments that are due
lacks_le : (p : Place) (s : List ℕ) (r : Record) → record_at p s ≡ Some r → 12 * lacking (place_after p r) ≤ length (drop (size_of r) s) → 12 * lacking p ≤ length s
lacks_le First s r e h = omega arith
lacks_le Next s r e h = omega arith
lacks_le (Within n) s (Frame f) e h = absurd (not_frame n s f e)
lacks_le (Within n) s (Job a b m) e h = absurd (not_job n s a b m e)
lacks_le (Within n) s (Segment a b m) e h = omega (arith, lacking_due (n - 1), length-drop 12 s, record_fits (Within n) s (Segment a b m) e)

-- each job's part ends within the bytes, which end at `end`; i segments come before the records
Ends : ℕ → List Placed → Type 0
Ends end rs = (i j : ℕ) → j < length (jobs_from i rs) → let e = get_or (jobs_from i rs) j no_job in e.mark + (8 + 12 * e.count) ≤ end

Inside : Place → ℕ → List ℕ → List Placed → Type 0
Inside p at s rs = (12 * lacking p ≤ length s) × Ends (at + length s) rs

inside_base : (p : Place) (at : ℕ) (s : List ℕ) → may_end p ≡ true → Inside p at s []
unfolding Inside Ends jobs_from
inside_base p at s e = (omega (arith, ended_lacks p e), λ i j h. absurd (omega arith))

-- the bytes after a record end where those from the record on end
same_end : (at n : ℕ) (s : List ℕ) → n ≤ length s → at + n + length (drop n s) ≡ at + length s
same_end at n s h = omega (arith, length-drop n s)

ends_job : (at a b m : ℕ) (s : List ℕ) (rs : List Placed) → 8 ≤ length s → Inside (due m) (at + 8) (drop 8 s) rs
    → Ends (at + length s) (record { at = at; what = Job a b m } ∷ rs)
unfolding Inside Ends jobs_from
ends_job at a b m s rs l q i zero h = omega (arith, q.0, lacking_due m, length-drop 8 s)
ends_job at a b m s rs l q i (suc j) h = omega (arith, q.1 (i + 0) j (omega arith), same_end at 8 s l)

inside_step : (p : Place) (at : ℕ) (s : List ℕ) (r : Record) (rs : List Placed) → record_at p s ≡ Some r
    → Inside (place_after p r) (at + size_of r) (drop (size_of r) s) rs → Inside p at s (record { at = at; what = r } ∷ rs)
unfolding Inside Ends jobs_from
inside_step p at s (Frame f) rs e q =
    (lacks_le p s (Frame f) e q.0, λ i j h. omega (arith, q.1 (i + 0) j h, same_end at 6 s (record_fits p s (Frame f) e)))
inside_step p at s (Job a b m) rs e q = (lacks_le p s (Job a b m) e q.0, ends_job at a b m s rs (record_fits p s (Job a b m) e) q)
inside_step p at s (Segment a b m) rs e q =
    (lacks_le p s (Segment a b m) e q.0, λ i j h. omega (arith, q.1 (i + 1) j h, same_end at 12 s (record_fits p s (Segment a b m) e)))

inside : (s : List ℕ) → (reading_of s).whole ≡ true → Ends (length s) (reading_of s).records
unfolding reading_of Inside Ends
inside s e i j h = omega (arith, (each Inside inside_base inside_step (length s) First 0 s e).1 i j h)

-- ---- for `Table::extent` and `Table::part`

-- nothing, at the end
none_there : (s : List ℕ) (j : ℕ) → has s j ≡ false → ◌≡◌ {A = Extent} (record { start = length s; length = 0 }) (record { start = start_of s j; length = length_of s j })
unfolding start_of length_of
none_there s j h = rw h

-- where the table is refused
pub refused_there : (s : List ℕ) (j : ℕ) (r : Refused) → Err r ≡ outcome_of s
    → ◌≡◌ {A = Extent} (record { start = length s; length = 0 }) (record { start = start_of s j; length = length_of s j })
unfolding has
refused_there s j r e = none_there s j (rw (ne_eqb (refusal s).number 0 (err_is s r e).0))

module _ (s : List ℕ) (t : Table) (e : Ok t ≡ outcome_of s) where
  zero_refusal : (refusal s).number ≡ 0
  zero_refusal = (ok_is s t e).0

  jobs_is : t.jobs ≡ length (jobs_in s)
  unfolding recorded table_from
  jobs_is = ap (λ (t : Table). t.jobs) (ok_is s t e).1

  -- its jobs have rows
  pub small : t.jobs ≤ 32
  small = rw jobs_is (few_jobs s zero_refusal)

  -- where it has no such job
  pub past_there : (j : ℕ) → t.jobs ≤ j → ◌≡◌ {A = Extent} (record { start = length s; length = 0 }) (record { start = start_of s j; length = length_of s j })
  unfolding has
  past_there j l = none_there s j (rw (eq-eqb (refusal s).number 0 zero_refusal, le-ltb j (length (jobs_in s)) (rw (← jobs_is) l)))

  module _ (j : ℕ) (l : j < t.jobs) where
    here : j < length (jobs_in s)
    here = rw (← jobs_is) l

    small_job : j < 32
    small_job = omega (arith, l, small)

    has_it : has s j ≡ true
    unfolding has
    has_it = rw (eq-eqb (refusal s).number 0 zero_refusal, lt-ltb j (length (jobs_in s)) here)

    job_is : the_job t j ≡ get_or (jobs_in s) j no_job
    unfolding recorded table_from
    job_is = rw (ok_is s t e).1 (get_or_padded 32 no_job (jobs_in s) j small_job)

    pub job_there : ◌≡◌ {A = Extent} (record { start = (the_job t j).mark; length = 8 + 12 * (the_job t j).count }) (record { start = start_of s j; length = length_of s j })
    unfolding start_of length_of
    job_there = rw (has_it, job_is)

-- a job that is there ends within the bytes
has_fits : (s : List ℕ) (j : ℕ) → has s j ≡ true → start_of s j + length_of s j ≤ length s
unfolding has start_of length_of Ends
has_fits s j e =
    let (z, l) = and_parts (eqb (refusal s).number 0) (ltb j (length (jobs_in s))) e in
    rw e (inside s (accepted s (eqb-true (refusal s).number 0 z)).whole 0 j (ltb-true j (length (jobs_in s)) l))

-- what lies there ends within the bytes
pub there_fits : (s : List ℕ) (j : ℕ) (e : Extent) → e ≡ record { start = start_of s j; length = length_of s j } → e.start + e.length ≤ length s
there_fits s j e q = rw q (go (has s j) refl)
  where
    go : (b : Bool) → has s j ≡ b → start_of s j + length_of s j ≤ length s
    go true e = has_fits s j e
    go false e = unfold start_of length_of in rw e (omega arith)

-- the part that lies there
pub at_job : (x : Bor (List ℕ)) (j : ℕ) (e : Extent) → e ≡ record { start = start_of x.now j; length = length_of x.now j }
    → Lies x (sl_partˢ x (e.start + x.ref_ptr.1) e.start (e.start + e.length)) (start_of x.now j) (part_of x.now j)
at_job x j e q = rw q (record {
  block = refl;
  place = omega arith;
  content = rw add-sub_cancel_left;
})

-- the promise leaves one answer: two parts that lie so are at one place and have the same bytes
pub lies_once : (x r q : Bor (List ℕ)) (a : ℕ) (l : List ℕ) → Lies x r a l → Lies x q a l → (r.ref_ptr ≡ q.ref_ptr) × (r.now ≡ q.now)
lies_once x r q a l f g = ((λ i. ((f.block ∙ sym g.block) i, (f.place ∙ sym g.place) i)), f.content ∙ sym g.content)
