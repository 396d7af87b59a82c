-- One record more: each definition over a list of records, at the list with a record put at its end. Then the table and the scan there.
use Prim.Native.Nat.{ℕ, zero, suc, ◌+◌, ◌≤◌}
use native.Mathlib.Nat.{zero-add, add_assoc}
use native.Mathlib.Omega.{arith}
use mathlib.Core.Path.{◌≡◌, refl, sym, ◌∙◌, ap}
use mathlib.Core.List.{List, [], ◌∷◌, ◌++◌, append-nil, append_assoc}
use mathlib.Core.Bool.{Bool, true, false, cond}
use lib.ListN.{length, set, length-append}
use lib.Seq.{set_out}
use lib.Dec.{ltb}
use borrow.Author.Tests.{ltb-false}
use Rattle.std.specs.Option.{option_or}
use Rattle.std.specs.Bool.{then_some}
use Rattle.table.specs.Records.{Placed}
use Rattle.table.specs.Table.{no_job, no_segment, segment_in, job_in, frame_after, segments_of, jobs_from, jobs_of, frame_of, padded, table_from, recorded}
use Rattle.table.specs.Refusal.{nothing, learn, outside, earlier, beyond, when, failing}
use Rattle.table.specs.Steps.{kept, with_job, with_segment, added, known_by, known_of, first_of, scan_of, scanned}
use Rattle.table.specs.declared.Job.{Job}
use Rattle.table.specs.declared.Segment.{Segment}
use Rattle.table.specs.declared.scan.Known.{Known}
use Rattle.table.specs.declared.records.Record.{Record}
use Rattle.table.specs.declared.records.Record.TheVariants as Say

-- ---- the jobs, the segments and the frame length

segments_snoc : (xs : List Placed) (r : Placed) → segments_of (xs ++ r ∷ []) ≡ segments_of xs ++ segment_in r.what
unfolding segments_of
segments_snoc [] r = append-nil (segment_in r.what)
segments_snoc (x ∷ xs) r = rw (segments_snoc xs r, append_assoc)

jobs_snoc : (k : ℕ) (xs : List Placed) (r : Placed) → jobs_from k (xs ++ r ∷ []) ≡ jobs_from k xs ++ job_in r.at (k + length (segments_of xs)) r.what
unfolding jobs_from segments_of
jobs_snoc k [] r = append-nil (job_in r.at k r.what) ∙ ap (λ (n : ℕ). job_in r.at n r.what) (omega arith)
jobs_snoc k (x ∷ xs) r = rw (jobs_snoc (k + length (segment_in x.what)) xs r, append_assoc, length-append (segment_in x.what) (segments_of xs), add_assoc)

frame_snoc : (k : ℕ) (xs : List Placed) (r : Placed) → frame_of k (xs ++ r ∷ []) ≡ frame_after (frame_of k xs) r.what
unfolding frame_of
frame_snoc k [] r = refl
frame_snoc k (x ∷ xs) r = frame_snoc (frame_after k x.what) xs r

-- ---- what the records say, and where they fail a test

pub known_snoc : (k : Known) (xs : List Placed) (r : Placed) → known_of k (xs ++ r ∷ []) ≡ learn (known_of k xs) r.what
unfolding known_of
known_snoc k [] r = refl
known_snoc k (x ∷ xs) r = known_snoc (learn k x.what) xs r

failing_snoc : (test : Known → Record → Bool) (k : Known) (xs : List Placed) (r : Placed)
    → failing test k (xs ++ r ∷ []) ≡ failing test k xs ++ when (test (known_of k xs) r.what) r.at
unfolding failing known_of
failing_snoc test k [] r = append-nil (when (test k r.what) r.at)
failing_snoc test k (x ∷ xs) r = rw (failing_snoc test (learn k x.what) xs r, append_assoc)

first_snoc : (ats : List ℕ) (b : Bool) (at : ℕ) → first_of (ats ++ when b at) ≡ option_or (first_of ats) (then_some b at)
first_snoc [] true at = refl
first_snoc [] false at = refl
first_snoc (x ∷ xs) b at = refl

-- one record of which is learnt what it gives
module _ (k : Known) where
  learn_frame : (r : Record) → (learn k r).frame ≡ frame_after k.frame r
  learn_frame (Say.Frame f) = refl
  learn_frame (Say.Job r b n) = refl
  learn_frame (Say.Segment l h m) = refl

  learn_jobs : (at i : ℕ) (r : Record) → (learn k r).jobs ≡ k.jobs + length (job_in at i r)
  learn_jobs at i (Say.Frame f) = omega arith
  learn_jobs at i (Say.Job r b n) = refl
  learn_jobs at i (Say.Segment l h m) = omega arith

  learn_segments : (r : Record) → (learn k r).segments ≡ k.segments + length (segment_in r)
  learn_segments (Say.Frame f) = omega arith
  learn_segments (Say.Job r b n) = omega arith
  learn_segments (Say.Segment l h m) = refl

known_frame : (k : Known) (xs : List Placed) → (known_of k xs).frame ≡ frame_of k.frame xs
unfolding known_of frame_of
known_frame k [] = refl
known_frame k (x ∷ xs) = known_frame (learn k x.what) xs ∙ rw (learn_frame k x.what)

pub known_jobs : (k : Known) (i : ℕ) (xs : List Placed) → (known_of k xs).jobs ≡ k.jobs + length (jobs_from i xs)
unfolding known_of jobs_from
known_jobs k i [] = omega arith
known_jobs k i (x ∷ xs) =
    omega (
      arith,
      known_jobs (learn k x.what) (i + length (segment_in x.what)) xs,
      learn_jobs k x.at i x.what,
      length-append (job_in x.at i x.what) (jobs_from (i + length (segment_in x.what)) xs),
    )

pub known_segments : (k : Known) (xs : List Placed) → (known_of k xs).segments ≡ k.segments + length (segments_of xs)
unfolding known_of segments_of
known_segments k [] = omega arith
known_segments k (x ∷ xs) =
    omega (arith, known_segments (learn k x.what) xs, learn_segments k x.what, length-append (segment_in x.what) (segments_of xs))

-- the table and the scan tell what is known
pub known_by_lem : (xs : List Placed) → known_by (recorded xs) (scan_of xs).release ≡ known_of nothing xs
unfolding recorded table_from scan_of
known_by_lem xs = λ i. record {
  frame = sym (known_frame nothing xs) i;
  release = (known_of nothing xs).release;
  jobs = sym (known_jobs nothing 0 xs ∙ zero-add (length (jobs_of xs))) i;
  segments = sym (known_segments nothing xs ∙ zero-add (length (segments_of xs))) i;
}

-- ---- rows of the table

module _ {E : Type 0} (filler : E) where
  length_padded : (n : ℕ) (xs : List E) → length (padded n filler xs) ≡ n
  unfolding padded
  length_padded zero xs = refl
  length_padded (suc n) [] = ap suc (length_padded n [])
  length_padded (suc n) (x ∷ xs) = ap suc (length_padded n xs)

  set_padded : (n : ℕ) (xs : List E) (v : E) → set (padded n filler xs) (length xs) v ≡ padded n filler (xs ++ v ∷ [])
  unfolding padded
  set_padded zero xs v = refl
  set_padded (suc n) [] v = refl
  set_padded (suc n) (x ∷ xs) v = ap (λ (l : List E). x ∷ l) (set_padded n xs v)

  kept_set : (n : ℕ) (l : List E) (i : ℕ) (v : E) → length l ≡ n → kept n l i v ≡ set l i v
  kept_set n l i v e = go (ltb i n) refl
    where
      go : (b : Bool) → ltb i n ≡ b → cond b (set l i v) l ≡ set l i v
      go true q = refl
      go false q = sym (set_out l i v (let h : n ≤ i = ltb-false i n q in omega arith))

  row_more : (n : ℕ) (xs : List E) (v : E) → kept n (padded n filler xs) (length xs) v ≡ padded n filler (xs ++ v ∷ [])
  row_more n xs v = kept_set n (padded n filler xs) (length xs) v (length_padded n xs) ∙ set_padded n xs v

count_more : {E : Type 0} (xs : List E) (v : E) → length xs + 1 ≡ length (xs ++ v ∷ [])
count_more xs v = rw (length-append xs (v ∷ []))

-- the table with one job more, and with one segment more
job_more : (f : ℕ) (js : List Job) (ss : List Segment) (v : Job) → with_job (table_from f js ss) v ≡ table_from f (js ++ v ∷ []) ss
unfolding with_job table_from
job_more f js ss v = λ i. record {
  frame = f;
  jobs = count_more js v i;
  segments = length ss;
  job = row_more no_job 32 js v i;
  segment = padded 64 no_segment ss;
}

segment_more : (f : ℕ) (js : List Job) (ss : List Segment) (v : Segment) → with_segment (table_from f js ss) v ≡ table_from f js (ss ++ v ∷ [])
unfolding with_segment table_from
segment_more f js ss v = λ i. record {
  frame = f;
  jobs = length js;
  segments = count_more ss v i;
  job = padded 32 no_job js;
  segment = row_more no_segment 64 ss v i;
}

-- ---- the table and the scan of the records with one more

parts_snoc : (xs : List Placed) (at : ℕ) (r : Record)
    → table_from (frame_after (frame_of 0 xs) r) (jobs_of xs ++ job_in at (length (segments_of xs)) r) (segments_of xs ++ segment_in r)
    ≡ recorded (xs ++ record { at = at; what = r } ∷ [])
unfolding recorded
parts_snoc xs at r =
    let x : Placed = record { at = at; what = r } in rw (frame_snoc 0 xs x, jobs_snoc 0 xs x, segments_snoc xs x, zero-add)

pub table_snoc : (xs : List Placed) (at : ℕ) (r : Record) → added (recorded xs) at r ≡ recorded (xs ++ record { at = at; what = r } ∷ [])
unfolding added recorded table_from
table_snoc xs at (Say.Frame f) = simp append-nil at (parts_snoc xs at (Say.Frame f))
table_snoc xs at (Say.Job r b n) =
    job_more (frame_of 0 xs) (jobs_of xs) (segments_of xs) (record { mark = at; release = r; base = b; first = length (segments_of xs); count = n })
    ∙ (simp append-nil at (parts_snoc xs at (Say.Job r b n)))
table_snoc xs at (Say.Segment l h m) =
    segment_more (frame_of 0 xs) (jobs_of xs) (segments_of xs) (record { shortest = l; longest = h; held = m })
    ∙ (simp append-nil at (parts_snoc xs at (Say.Segment l h m)))

first_more : (test : Known → Record → Bool) (xs : List Placed) (at : ℕ) (r : Record)
    → option_or (first_of (failing test nothing xs)) (then_some (test (known_of nothing xs) r) at) ≡ first_of (failing test nothing (xs ++ record { at = at; what = r } ∷ []))
first_more test xs at r =
    sym (first_snoc (failing test nothing xs) (test (known_of nothing xs) r) at)
    ∙ ap first_of (sym (failing_snoc test nothing xs (record { at = at; what = r })))

pub scan_snoc : (xs : List Placed) (at : ℕ) (r : Record) → scanned (scan_of xs) (known_of nothing xs) at r ≡ scan_of (xs ++ record { at = at; what = r } ∷ [])
unfolding scanned scan_of
scan_snoc xs at r = λ i. record {
  release = ap (λ (k : Known). k.release) (sym (known_snoc nothing xs (record { at = at; what = r }))) i;
  faulty = first_more outside xs at r i;
  early = first_more earlier xs at r i;
  beyond = first_more beyond xs at r i;
}
