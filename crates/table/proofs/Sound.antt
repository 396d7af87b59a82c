-- Every accepted table is sound: its numbers are within their bounds, releases do not fall, and first segments add up.
use Prim.Native.Nat.{ℕ, zero, suc, ◌+◌, ◌-◌, ◌<◌, ◌≤◌}
use native.Mathlib.Omega.{arith}
use mathlib.Core.Path.{◌≡◌, refl}
use mathlib.Core.List.{List, [], ◌∷◌}
use mathlib.Core.Bool.{Bool, true, false, cond, ◌||◌}
use lib.ListN.{length, get_or}
use lib.Dec.{leb, ltb, eqb}
use Rattle.std.specs.Prelude.{Some, Ok}
use Rattle.std.specs.Prelude.{All}
use Rattle.std.proofs.lemmas.Bool.{or_parts}
use Rattle.std.proofs.lemmas.List.Elements.{All-nil, All-cons, All-get_or}
use borrow.Author.Tests.{leb-false, ltb-false, eqb-false}
use Rattle.table.specs.Records.{Placed, record_at, due, lacking, place_after, may_end, reading_of}
use Rattle.table.specs.Table.{no_job, no_segment, the_job, the_segment, jobs_from, jobs_of, segments_of, frame_of, table_from, recorded}
use Rattle.table.specs.Refusal.{nothing, learn, outside, earlier, beyond, failing, refusal, outcome_of, table_of}
use Rattle.table.specs.Sound.{SoundJob, SoundSegment, Sound}
use Rattle.table.specs.declared.Job.{Job}
use Rattle.table.specs.declared.Segment.{Segment}
use Rattle.table.specs.declared.Table.{Table}
use Rattle.table.specs.declared.scan.Known.{Known}
use Rattle.table.specs.declared.records.Place.{Place}
use Rattle.table.specs.declared.records.Place.TheVariants.{First, Next, Within}
use Rattle.table.specs.declared.records.Record.{Record}
use Rattle.table.specs.declared.records.Record.TheVariants as Say
use Rattle.table.proofs.Walk.{marked_whole}
use Rattle.table.proofs.Whole.{lacking_due, ended_lacks, not_frame, not_job, each, accepted, passes, get_or_padded, ok_is, accepted_is}

-- ---- how many there are at most

-- there is room for these records after the known ones
Room : Known → List Placed → Type 0
Room k rs = (i : ℕ) → (k.jobs + length (jobs_from i rs) ≤ 32) × (k.segments + length (segments_of rs) ≤ 64)

-- one record that is not beyond, before records that have room
room_step : (k : Known) (at : ℕ) (r : Record) (rs : List Placed) → k.jobs ≤ 32 → k.segments ≤ 64 → beyond k r ≡ false
    → ((learn k r).jobs ≤ 32 → (learn k r).segments ≤ 64 → Room (learn k r) rs) → Room k (record { at = at; what = r } ∷ rs)
unfolding Room jobs_from segments_of
room_step k at (Say.Frame f) rs a b t ih i = let m = ih a b (i + 0) in (omega (arith, m.0), omega (arith, m.1))
room_step k at (Say.Job x y z) rs a b t ih i =
    let h = leb-false 32 k.jobs t in let m = ih (omega arith) b (i + 0) in (omega (arith, m.0), omega (arith, m.1))
room_step k at (Say.Segment x y z) rs a b t ih i =
    let h = leb-false 64 k.segments t in let m = ih a (omega arith) (i + 1) in (omega (arith, m.0), omega (arith, m.1))

room : (k : Known) (rs : List Placed) → k.jobs ≤ 32 → k.segments ≤ 64 → failing beyond k rs ≡ [] → Room k rs
unfolding failing
room k [] a b e = unfold Room jobs_from segments_of in λ i. (omega arith, omega arith)
room k (r ∷ rs) a b e =
    let (t, q) = passes (beyond k r.what) r.at (failing beyond (learn k r.what) rs) e in
    room_step k r.at r.what rs a b t (λ a b. room (learn k r.what) rs a b q)

table_room : (s : List ℕ) → (refusal s).number ≡ 0 → (length (jobs_of (reading_of s).records) ≤ 32) × (length (segments_of (reading_of s).records) ≤ 64)
unfolding Room
table_room s z = let m = room nothing (reading_of s).records (omega arith) (omega arith) (accepted s z).few 0 in (omega (arith, m.0), omega (arith, m.1))

pub few_jobs : (s : List ℕ) → (refusal s).number ≡ 0 → length (jobs_of (reading_of s).records) ≤ 32
few_jobs s z = (table_room s z).0

-- ---- what a place allows

-- a place that is not the first
abbrev Later : Place → Type 0
Later First = ⊥
Later Next = Unit {0}
Later (Within n) = Unit {0}

later_due : (n : ℕ) → Later (due n)
later_due n = go (eqb n 0)
  where
    go : (b : Bool) → Later (cond b Next (Within n))
    go true = tt
    go false = tt

-- where a job or a segment is due no FR record is read
no_frame : (p : Place) (s : List ℕ) (f : ℕ) → Later p → record_at p s ≡ Some (Say.Frame f) → ⊥
unfolding record_at
no_frame First s f h e = h
no_frame Next s f h e = let q = (marked_whole s _ _ _ _ e).0 in cc
no_frame (Within n) s f h e = not_frame n s f e

-- where another record is read, no segment was due; a segment is read only where one was due
job_lacks : (p : Place) (s : List ℕ) (a b m : ℕ) → record_at p s ≡ Some (Say.Job a b m) → lacking p ≡ 0
job_lacks First s a b m e = refl
job_lacks Next s a b m e = refl
job_lacks (Within n) s a b m e = absurd (not_job n s a b m e)

frame_lacks : (p : Place) (s : List ℕ) (f : ℕ) → record_at p s ≡ Some (Say.Frame f) → lacking p ≡ 0
frame_lacks First s f e = refl
frame_lacks Next s f e = refl
frame_lacks (Within n) s f e = absurd (not_frame n s f e)

-- a place that says how many are due says more than none
abbrev Proper : Place → Type 0
Proper First = Unit {0}
Proper Next = Unit {0}
Proper (Within n) = 0 < n

proper_due : (n : ℕ) → Proper (due n)
proper_due n = go (eqb n 0) refl
  where
    go : (b : Bool) → eqb n 0 ≡ b → Proper (cond b Next (Within n))
    go true q = tt
    go false q = let d = eqb-false n 0 q in omega arith

segment_lacks : (p : Place) (s : List ℕ) (a b m : ℕ) → Proper p → record_at p s ≡ Some (Say.Segment a b m) → 0 < lacking p
unfolding record_at
segment_lacks First s a b m h e = let q = (marked_whole s _ _ _ _ e).0 in cc
segment_lacks Next s a b m h e = let q = (marked_whole s _ _ _ _ e).0 in cc
segment_lacks (Within n) s a b m h e = h

-- ---- the jobs and segments that records give

-- releases do not fall, from r on
abbrev Rising : ℕ → List Job → Type 0
Rising r [] = Unit {0}
Rising r (e ∷ es) = (r ≤ e.release) × Rising e.release es

-- first segments add up, from i to n
abbrev Chain : ℕ → List Job → ℕ → Type 0
Chain i [] n = i ≡ n
Chain i (e ∷ es) n = (e.first ≡ i) × Chain (i + e.count) es n

chain_same : (i i' n n' : ℕ) (es : List Job) → i ≡ i' → n ≡ n' → Chain i es n → Chain i' es n'
chain_same i i' n n' es a b c = rw (← a, ← b) c

-- a record within its bounds
sound_job : (k : Known) (a b m : ℕ) → outside k (Say.Job a b m) ≡ false → (at i : ℕ) → SoundJob k.frame (record { mark = at; release = a; base = b; first = i; count = m })
sound_job k a b m q at i =
    let e4 = or_parts (leb k.frame a || ltb b 1 || ltb 200 b || ltb m 1) (ltb 8 m) q in
    let e3 = or_parts (leb k.frame a || ltb b 1 || ltb 200 b) (ltb m 1) e4.0 in
    let e2 = or_parts (leb k.frame a || ltb b 1) (ltb 200 b) e3.0 in
    let e1 = or_parts (leb k.frame a) (ltb b 1) e2.0 in
    record {
      released = leb-false k.frame a e1.0;
      base_some = ltb-false b 1 e1.1;
      base_most = ltb-false 200 b e2.1;
      count_some = ltb-false m 1 e3.1;
      count_most = ltb-false 8 m e4.1;
    }

sound_segment : (k : Known) (a b m : ℕ) → outside k (Say.Segment a b m) ≡ false → SoundSegment (record { shortest = a; longest = b; held = m })
sound_segment k a b m q =
    let e2 = or_parts (ltb a 1 || ltb b a) (ltb 1000000 b) q in
    let e1 = or_parts (ltb a 1) (ltb b a) e2.0 in
    record { some = ltb-false a 1 e1.0; order = ltb-false b a e1.1; most = ltb-false 1000000 b e2.1 }

-- ---- what a whole reading keeps, from a place on

record Keeps (p : Place) (rs : List Placed) : Type 0 where
  frame : Later p → (g : ℕ) → frame_of g rs ≡ g
  frame_most : (k : Known) → failing outside k rs ≡ [] → k.frame ≤ 1000000 → frame_of k.frame rs ≤ 1000000
  jobs : (k : Known) (i : ℕ) → failing outside k rs ≡ [] → All (SoundJob (frame_of k.frame rs)) (jobs_from i rs)
  segments : (k : Known) → failing outside k rs ≡ [] → All SoundSegment (segments_of rs)
  rising : (k : Known) (i : ℕ) → failing earlier k rs ≡ [] → Rising k.release (jobs_from i rs)
  chain : Proper p → (i : ℕ) → Chain (i + lacking p) (jobs_from i rs) (i + length (segments_of rs))

keeps_base : (p : Place) → may_end p ≡ true → Keeps p []
unfolding frame_of segments_of jobs_from
keeps_base p e = record {
  frame = λ h g. refl;
  frame_most = λ k q h. h;
  jobs = λ k i q. All-nil _;
  segments = λ k q. All-nil _;
  rising = λ k i q. tt;
  chain = λ h i. omega (arith, ended_lacks p e);
}

keeps_step : (p : Place) (at : ℕ) (s : List ℕ) (r : Record) (rs : List Placed) → record_at p s ≡ Some r → Keeps (place_after p r) rs → Keeps p (record { at = at; what = r } ∷ rs)
unfolding frame_of segments_of jobs_from failing
keeps_step p at s (Say.Frame f) rs e q = record {
  frame = λ h g. absurd (no_frame p s f h e);
  frame_most = λ k x h.
      let (t, y) = passes (outside k (Say.Frame f)) at _ x in
      q.frame_most (learn k (Say.Frame f)) y (ltb-false 1000000 f (or_parts (ltb f 1) (ltb 1000000 f) t).1);
  jobs = λ k i x. q.jobs (learn k (Say.Frame f)) (i + 0) (passes (outside k (Say.Frame f)) at _ x).1;
  segments = λ k x. q.segments (learn k (Say.Frame f)) (passes (outside k (Say.Frame f)) at _ x).1;
  rising = λ k i x. q.rising (learn k (Say.Frame f)) (i + 0) x;
  chain = λ h i. chain_same (i + 0 + 0) (i + lacking p) (i + 0 + length (segments_of rs)) (i + length (segments_of rs)) (jobs_from (i + 0) rs) (omega (arith, frame_lacks p s f e)) (omega arith) (q.chain tt (i + 0));
}
keeps_step p at s (Say.Job a b m) rs e q = record {
  frame = λ h g. q.frame (later_due m) g;
  frame_most = λ k x h. q.frame_most (learn k (Say.Job a b m)) (passes (outside k (Say.Job a b m)) at _ x).1 h;
  jobs = λ k i x.
      let (t, y) = passes (outside k (Say.Job a b m)) at _ x in
      All-cons (SoundJob (frame_of k.frame rs)) _ _ (rw (q.frame (later_due m) k.frame) (sound_job k a b m t at i)) (q.jobs (learn k (Say.Job a b m)) (i + 0) y);
  segments = λ k x. q.segments (learn k (Say.Job a b m)) (passes (outside k (Say.Job a b m)) at _ x).1;
  rising = λ k i x.
      let (t, y) = passes (earlier k (Say.Job a b m)) at _ x in (ltb-false a k.release t, q.rising (learn k (Say.Job a b m)) (i + 0) y);
  chain = λ h i. (
    omega (arith, job_lacks p s a b m e),
    chain_same (i + 0 + lacking (due m)) (i + lacking p + m) (i + 0 + length (segments_of rs)) (i + length (segments_of rs)) (jobs_from (i + 0) rs) (omega (arith, job_lacks p s a b m e, lacking_due m)) (omega arith) (q.chain (proper_due m) (i + 0)),
  );
}
keeps_step p at s (Say.Segment a b m) rs e q = record {
  frame = λ h g. q.frame (later_due (lacking p - 1)) g;
  frame_most = λ k x h. q.frame_most (learn k (Say.Segment a b m)) (passes (outside k (Say.Segment a b m)) at _ x).1 h;
  jobs = λ k i x. q.jobs (learn k (Say.Segment a b m)) (i + 1) (passes (outside k (Say.Segment a b m)) at _ x).1;
  segments = λ k x.
      let (t, y) = passes (outside k (Say.Segment a b m)) at _ x in All-cons SoundSegment _ _ (sound_segment k a b m t) (q.segments (learn k (Say.Segment a b m)) y);
  rising = λ k i x. q.rising (learn k (Say.Segment a b m)) (i + 1) x;
  chain = λ h i. chain_same (i + 1 + lacking (due (lacking p - 1))) (i + lacking p) (i + 1 + length (segments_of rs)) (i + suc (length (segments_of rs))) (jobs_from (i + 1) rs) (omega (arith, segment_lacks p s a b m h e, lacking_due (lacking p - 1))) (omega arith) (q.chain (proper_due (lacking p - 1)) (i + 1));
}

-- ---- from the lists to the rows of the table

rising_at : (r : ℕ) (es : List Job) → Rising r es → (j : ℕ) → suc j < length es → (get_or es j no_job).release ≤ (get_or es (suc j) no_job).release
rising_at r [] a j h = absurd (omega arith)
rising_at r (e ∷ []) a j h = absurd (omega arith)
rising_at r (e ∷ d ∷ es) a zero h = a.1.0
rising_at r (e ∷ d ∷ es) a (suc j) h = rising_at e.release (d ∷ es) a.1 j (omega arith)

chain_first : (i n : ℕ) (es : List Job) → Chain i es n → 0 < length es → (get_or es 0 no_job).first ≡ i
chain_first i n [] c h = absurd (omega arith)
chain_first i n (e ∷ es) c h = c.0

chain_next : (i n : ℕ) (es : List Job) → Chain i es n → (j : ℕ) → suc j < length es → (get_or es (suc j) no_job).first ≡ (get_or es j no_job).first + (get_or es j no_job).count
chain_next i n [] c j h = absurd (omega arith)
chain_next i n (e ∷ []) c j h = absurd (omega arith)
chain_next i n (e ∷ d ∷ es) c zero h = rw c.0 c.1.0
chain_next i n (e ∷ d ∷ es) c (suc j) h = chain_next (i + e.count) n (d ∷ es) c.1 j (omega arith)

chain_last : (i n : ℕ) (es : List Job) → Chain i es n → (j : ℕ) → suc j ≡ length es → (get_or es j no_job).first + (get_or es j no_job).count ≡ n
chain_last i n [] c j h = absurd (omega arith)
chain_last i n (e ∷ []) c zero h = rw c.0 c.1
chain_last i n (e ∷ []) c (suc j) h = absurd (omega arith)
chain_last i n (e ∷ d ∷ es) c zero h = absurd (omega arith)
chain_last i n (e ∷ d ∷ es) c (suc j) h = chain_last (i + e.count) n (d ∷ es) c.1 j (omega arith)

-- ---- the table

module _ (s : List ℕ) (z : (refusal s).number ≡ 0) where
  abbrev rs : List Placed
  rs = (reading_of s).records

  abbrev js : List Job
  js = jobs_of rs

  abbrev ss : List Segment
  ss = segments_of rs

  keeps : Keeps First (reading_of s).records
  unfolding reading_of
  keeps = each (λ p at s rs. Keeps p rs) (λ p at s. keeps_base p) keeps_step (length s) First 0 s (accepted s z).whole

  chain : Chain 0 js (length ss)
  chain = chain_same (0 + 0) 0 (0 + length ss) (length ss) js (omega arith) (omega arith) (keeps.chain tt 0)

  -- the rows of the jobs and of the segments
  job_row : (j : ℕ) → j < length js → the_job (recorded rs) j ≡ get_or js j no_job
  unfolding recorded table_from
  job_row j h = let m = (table_room s z).0 in get_or_padded 32 no_job js j (omega arith)

  segment_row : (k : ℕ) → k < length ss → the_segment (recorded rs) k ≡ get_or ss k no_segment
  unfolding recorded table_from
  segment_row k h = let m = (table_room s z).1 in get_or_padded 64 no_segment ss k (omega arith)

  some_job : 0 < length js
  some_job = let d = (accepted s z).some in omega arith

  sound_rows : Sound (recorded rs)
  unfolding recorded table_from
  sound_rows = record {
    jobs_some = some_job;
    jobs_most = (table_room s z).0;
    segments_most = (table_room s z).1;
    frame_most = keeps.frame_most nothing (accepted s z).bounds (omega arith);
    job = λ j h. rw (job_row j h) (All-get_or (SoundJob (frame_of 0 rs)) js j no_job h (keeps.jobs nothing 0 (accepted s z).bounds));
    segment = λ k h. rw (segment_row k h) (All-get_or SoundSegment ss k no_segment h (keeps.segments nothing (accepted s z).bounds));
    order = λ j h. rw (job_row j (omega arith), job_row (suc j) h) (rising_at 0 js (keeps.rising nothing 0 (accepted s z).order) j h);
    first = rw (job_row 0 some_job) (chain_first 0 (length ss) js chain some_job);
    next = λ j h. rw (job_row (suc j) h, job_row j (omega arith)) (chain_next 0 (length ss) js chain j h);
    last = λ j h. rw (job_row j (omega arith)) (chain_last 0 (length ss) js chain j h);
  }

-- for a caller of `Table::read`
pub sound_outcome : (s : List ℕ) (t : Table) → Ok t ≡ outcome_of s → Sound t
sound_outcome s t e = let (z, q) = ok_is s t e in rw q (sound_rows s z)

pub sound_table : (s : List ℕ) → (refusal s).number ≡ 0 → Sound (table_of s)
sound_table s z = rw (accepted_is s z) (sound_rows s z)
