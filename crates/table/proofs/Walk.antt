-- The reading, record by record: what the loop of `Table::read` has passed, and what is still to be read, make up the whole reading.
use Prim.Native.Nat.{ℕ, zero, suc, ◌+◌, ◌-◌, ◌<◌, ◌≤◌}
use native.Mathlib.Omega.{arith}
use mathlib.Core.Path.{◌≡◌, refl, sym, ◌∙◌, ap}
use mathlib.Core.List.{List, [], ◌∷◌, ◌++◌, append-nil, append_assoc}
use mathlib.Core.Bool.{Bool, true, false, cond}
use lib.ListN.{length, take, drop, length-drop}
use borrow.Author.Rules.{part_to_end}
use lib.Seq.{drop-drop}
use lib.Dec.{leb, eqb}
use borrow.Author.Tests.{leb-true, eq-eqb, ne_eqb}
use Rattle.table.specs.Records.{le2, sized, marked, record_at, size_of, place_after, may_end, Placed, Reading, at_end, ahead, goes_on, read_from, reading_of}
use Rattle.table.specs.Table.{segments_of, jobs_from, table_from, recorded}
use Rattle.table.specs.Refusal.{nothing}
use Rattle.table.specs.Steps.{with_job, with_segment, added, known_by, known_of, scanned, scan_of, ended_at}
use Rattle.table.specs.declared.Table.{Table}
use Rattle.table.specs.declared.scan.Scan.{Scan}
use Rattle.table.specs.declared.scan.Known.{Known}
use Rattle.table.specs.declared.records.Place.{Place}
use Rattle.table.specs.declared.records.Place.TheVariants.{First, Next, Within}
use Rattle.table.specs.declared.records.Record.{Record}
use Rattle.table.specs.declared.records.Record.TheVariants.{Frame, Job, Segment}
use Rattle.std.specs.Prelude.{Option, Some, None}
use Rattle.table.proofs.Fold.{known_by_lem, table_snoc, scan_snoc}

-- a record that is read is the one that its mark selects, and all its bytes are there
pub marked_whole : (s : List ℕ) (m n : ℕ) (r' r : Record) → marked s m n r' ≡ Some r → (r' ≡ r) × (n ≤ length s)
unfolding marked sized
marked_whole s m n r' r e = go (leb 2 (length s)) (eqb (le2 s 0) m) (leb n (length s)) refl e
  where
    go : (a b d : Bool) → leb n (length s) ≡ d → cond a (cond b (cond d (Some r') None) None) None ≡ Some r → (r' ≡ r) × (n ≤ length s)
    go true true true h q = (cc, leb-true n (length s) h)
    go true true false h q = cc
    go true false d h q = cc
    go false b d h q = cc

pub record_fits : (p : Place) (s : List ℕ) (r : Record) → record_at p s ≡ Some r → size_of r ≤ length s
unfolding record_at
record_fits First s r e = let h = marked_whole s _ _ _ r e in rw (← h.0) h.1
record_fits Next s r e = let h = marked_whole s _ _ _ r e in rw (← h.0) h.1
record_fits (Within n) s r e = let h = marked_whole s _ _ _ r e in rw (← h.0) h.1

pub size_pos : (r : Record) → 0 < size_of r
size_pos (Frame f) = omega arith
size_pos (Job r b n) = omega arith
size_pos (Segment l h m) = omega arith

-- a record adds no more jobs or segments than it has bytes
adds_few : (t : Table) (at : ℕ) (r : Record) → ((added t at r).jobs ≤ t.jobs + size_of r) × ((added t at r).segments ≤ t.segments + size_of r)
unfolding added with_job with_segment
adds_few t at (Frame f) = (omega arith, omega arith)
adds_few t at (Job r b n) = (omega arith, omega arith)
adds_few t at (Segment l h m) = (omega arith, omega arith)

-- one step of the reading, and its two ends
read_step : (n : ℕ) (p : Place) (at : ℕ) (s : List ℕ) (r : Record) → 0 < length s → record_at p s ≡ Some r
    → read_from (suc n) p at s ≡ ahead (record { at = at; what = r }) (read_from n (place_after p r) (at + size_of r) (drop (size_of r) s))
unfolding read_from goes_on
read_step n p at s r h e = rw (ne_eqb (length s) 0 (λ q. omega arith), e)

read_cut : (n : ℕ) (p : Place) (at : ℕ) (s : List ℕ) → 0 < length s → length s ≤ n → record_at p s ≡ None
    → read_from n p at s ≡ record { records = []; whole = false; stop = at }
unfolding read_from goes_on
read_cut zero p at s h l e = absurd (omega arith)
read_cut (suc n) p at s h l e = rw (ne_eqb (length s) 0 (λ q. omega arith), e)

read_end : (n : ℕ) (p : Place) (at : ℕ) (s : List ℕ) → length s ≡ 0 → read_from n p at s ≡ at_end p at
unfolding read_from
read_end zero p at s h = refl
read_end (suc n) p at s h = rw (eq-eqb (length s) 0 h)

-- records that were read before others
pub behind : List Placed → Reading → Reading
behind xs x = record { records = xs ++ x.records; whole = x.whole; stop = x.stop }

behind_ahead : (xs : List Placed) (r : Placed) (x : Reading) → behind xs (ahead r x) ≡ behind (xs ++ r ∷ []) x
unfolding behind ahead
behind_ahead xs r x = λ i. record { records = sym (append_assoc xs (r ∷ []) x.records) i; whole = x.whole; stop = x.stop }

-- what the loop keeps: at a place, the records so far, and that what is read from there on completes the reading
pub record Went (s : List ℕ) (t : Table) (x : Scan) (p : Place) (at : ℕ) : Type 0 where
  pub done : List Placed
  pub left : ℕ
  pub inside : at ≤ length s
  pub enough : length s - at ≤ left
  pub few_jobs : t.jobs ≤ at
  pub few_segments : t.segments ≤ at
  pub table : t ≡ recorded done
  pub scan : x ≡ scan_of done
  pub reading : reading_of s ≡ behind done (read_from left p at (drop at s))

pub start : (s : List ℕ) (t : Table) (x : Scan) → t ≡ recorded [] → x ≡ scan_of [] → Went s t x First 0
unfolding reading_of behind recorded table_from jobs_from segments_of
start s t x e f = record {
  done = [];
  left = length s;
  inside = omega arith;
  enough = omega arith;
  few_jobs = rw (ap (λ (t : Table). t.jobs) e) (omega arith);
  few_segments = rw (ap (λ (t : Table). t.segments) e) (omega arith);
  table = e;
  scan = f;
  reading = refl;
}

-- what is known before a record
known_here : {s : List ℕ} {t : Table} {x : Scan} {p : Place} {at : ℕ} (w : Went s t x p at) → known_by t x.release ≡ known_of nothing w.done
known_here w = rw (w.table, w.scan) (known_by_lem w.done)

pub step : {s : List ℕ} {t : Table} {x : Scan} {p : Place} {at : ℕ} (r : Record) → Went s t x p at → at < length s → record_at p (drop at s) ≡ Some r
    → Went s (added t at r) (scanned x (known_by t x.release) at r) (place_after p r) (at + size_of r)
step {s} {t} {x} {p} {at} r w h e = go w.left w.enough w.reading
  where
    new : Placed
    new = record { at = at; what = r }

    room : length (drop at s) ≡ length s - at
    room = length-drop at s

    fits : size_of r ≤ length s - at
    fits = rw (← room) (record_fits p (drop at s) r e)

    go : (n : ℕ) → length s - at ≤ n → reading_of s ≡ behind w.done (read_from n p at (drop at s))
        → Went s (added t at r) (scanned x (known_by t x.release) at r) (place_after p r) (at + size_of r)
    go zero l q = absurd (omega arith)
    go (suc n) l q = record {
      done = w.done ++ new ∷ [];
      left = n;
      inside = omega (arith, fits);
      enough = omega (arith, size_pos r);
      few_jobs = omega (arith, (adds_few t at r).0, w.few_jobs);
      few_segments = omega (arith, (adds_few t at r).1, w.few_segments);
      table = rw w.table (table_snoc w.done at r);
      scan = ap (λ (k : Known). scanned x k at r) (known_here w) ∙ rw w.scan (scan_snoc w.done at r);
      reading =
          q ∙ ap (behind w.done) (read_step n p at (drop at s) r (omega (arith, room)) e) ∙ behind_ahead w.done new _
          ∙ ap (λ (l : List ℕ). behind (w.done ++ new ∷ []) (read_from n (place_after p r) (at + size_of r) l)) (drop-drop (size_of r) at s);
    }

-- the end of the bytes
pub finish : {s : List ℕ} {t : Table} {x : Scan} {p : Place} {at : ℕ} (w : Went s t x p at) → length s ≤ at → reading_of s ≡ ended_at w.done p at
unfolding behind ended_at
finish {s} {t} {x} {p} {at} w h =
    w.reading ∙ ap (behind w.done) (read_end w.left p at (drop at s) (length-drop at s ∙ omega arith))
    ∙ (λ i. record { records = append-nil w.done i; whole = may_end p; stop = at })

-- a record that cannot be read
pub stop : {s : List ℕ} {t : Table} {x : Scan} {p : Place} {at : ℕ} (w : Went s t x p at) → at < length s → record_at p (drop at s) ≡ None
    → ((reading_of s).whole ≡ false) × ((reading_of s).stop ≡ at)
unfolding behind
stop {s} {t} {x} {p} {at} w h e =
    let q : reading_of s ≡ behind w.done (record { records = []; whole = false; stop = at })
    = w.reading ∙ ap (behind w.done) (read_cut w.left p at (drop at s) (rw (length-drop at s) (omega arith)) (rw (length-drop at s) w.enough) e) in
    (ap (λ (y : Reading). y.whole) q, ap (λ (y : Reading). y.stop) q)

-- what the record's reader answered of the part that it was handed
pub told : (s : List ℕ) (at : ℕ) (p : Place) (a : Option Record) → a ≡ record_at p (take (length s - at) (drop at s)) → record_at p (drop at s) ≡ a
told s at p a e = ap (record_at p) (sym (part_to_end s at)) ∙ sym e
