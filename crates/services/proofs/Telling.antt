-- Reading a log word by word follows the reading of its entries.
use Rattle.std.proofs.Common.{◌≡◌, ℕ, ◌+◌, ◌-◌, ◌<◌, ◌≤◌, min, List, length, get_or, set, replicate, sym, refl, ap, ◌∙◌, arith, get_or-set_other, get_or-set_same, le-ltb, lt-ltb}
use Rattle.std.proofs.Math.ListN.{length-replicate, get_or-replicate}
use Rattle.kernel.specs.declared.jobs.Jobs.{Jobs}
use Rattle.kernel.specs.Rules.{JobSet}
use Rattle.kernel.specs.Jobs.{sum}
use Rattle.kernel.specs.Log.{named, place, time_in}
use Rattle.kernel.specs.Held.{job_at, set_of, Loaded}
use Rattle.kernel.specs.Laws.Tests.{split}
use Rattle.kernel.specs.Laws.Places.{put2, put2_cases}
use Rattle.kernel.specs.Laws.Small.{has_job}
use Rattle.kernel.specs.Laws.Times.{Entry, Reading, unread, read_on}
use Rattle.services.specs.Told.{credited, ran_next}
use Rattle.services.specs.declared.told.Ran.{Ran}
use Rattle.services.proofs.Credits.{place_before, ran_at, grown, credit_some, credit_none, credit_length}

-- ---- each segment has a place of its own

module _ (J : JobSet) where
  pub one_place : (i j k m : ℕ) → k < J.segments i → m < J.segments j → place J i k ≡ place J j m → (i ≡ j) × (k ≡ m)
  one_place i j k m h q e = split i j
      (λ (l : i < j). absurd (omega (arith, place_before J i k j l h)))
      (λ (l : j ≤ i). split j i
      (λ (r : j < i). absurd (omega (arith, place_before J j m i r q)))
      (λ (r : i ≤ j). let z : i ≡ j = omega arith in (z, omega (arith, ap (sum J.segments) z))))

-- ---- where there is no job

-- it is not released
no_release : (w : Jobs) (i : ℕ) → (set_of w).jobs ≤ i → (set_of w).release i ≡ 0
unfolding set_of job_at
no_release w i h = rw (le-ltb i w.count h)

named_some : (J : JobSet) (i x : ℕ) → i < J.jobs → named J i x ≡ x
named_some J i x h = rw (lt-ltb i J.jobs h)

named_none : (J : JobSet) (i x : ℕ) → J.jobs ≤ i → named J i x ≡ 4294967295
named_none J i x h = rw (le-ltb i J.jobs h)

-- ---- the words so far tell what the entries so far tell

pub record Follows (w : Jobs) (times : List ℕ) (ran : Ran) (m : Reading) : Type 0 where
  pub size : length times ≡ 64
  pub since : ran.since ≡ m.since
  pub job : m.job < (set_of w).jobs → ran.job ≡ m.job
  pub segment : m.job < (set_of w).jobs → ran.segment ≡ m.segment
  pub none : (set_of w).jobs ≤ m.job → (set_of w).jobs ≤ ran.job
  pub told : (i k : ℕ) → i < (set_of w).jobs → k < (set_of w).segments i → time_in (set_of w) times i k ≡ min (m.times i k) 4294967295

pub follows_none : (w : Jobs) → Loaded w → Follows w (replicate 64 0) (record { job = (set_of w).jobs; segment = 0; since = 0 }) (unread (set_of w))
follows_none w L = record {
  size = length-replicate {A = ℕ} 64 0;
  since = refl;
  job = λ h. refl;
  segment = λ h. refl;
  none = λ h. h;
  told = λ i k h q.
      let e : get_or (replicate {A = ℕ} 64 0) (place (set_of w) i k) 0 ≡ 0
      = get_or-replicate {A = ℕ} 64 (place (set_of w) i k) 0 0 (omega (arith, L.few_segments, place_before (set_of w) i k (set_of w).jobs h q)) in
      omega arith;
}

module _ (w : Jobs) (times : List ℕ) (L : Loaded w) (ran : Ran) (m : Reading) (F : Follows w times ran m) (tick : ℕ) where
  abbrev J : JobSet
  J = set_of w

  place_small : (i k : ℕ) → i < J.jobs → k < J.segments i → place J i k < 64
  place_small i k h q = omega (arith, L.few_segments, place_before J i k J.jobs h q)

  -- the segment that ran
  told_same : (i k : ℕ) → i < J.jobs → k < J.segments i → i ≡ m.job → k ≡ m.segment
      → time_in J (credited w ran tick times) i k ≡ min (m.times m.job m.segment + (tick - m.since)) 4294967295
  told_same i k h q e d =
      let a : ran.job ≡ i = F.job (omega arith) ∙ sym e in
      let b : ran.segment ≡ k = F.segment (omega arith) ∙ sym d in
      let p : ran_at w ran tick times ≡ place J i k = rw (a, b) (ap (λ (n : ℕ). n + k) (L.firsts i h)) in
      let s : ran.segment < J.segments ran.job = rw (a, b) q in
      let old : get_or times (place J i k) 0 ≡ min (m.times m.job m.segment) 4294967295 = rw (← e, ← d) (F.told i k h q) in
      ap (λ (l : List ℕ). get_or l (place J i k) 0) (credit_some w ran tick times s)
      ∙ ap (λ (n : ℕ). get_or (set times n (grown w ran tick times)) (place J i k) 0) p
      ∙ get_or-set_same times (place J i k) (grown w ran tick times) 0 (omega (arith, F.size, place_small i k h q))
      ∙ omega (arith, ap (λ (n : ℕ). get_or times n 0) p, old, F.since)

  -- any other
  told_other : (i k : ℕ) → i < J.jobs → k < J.segments i → (i ≡ m.job → k ≡ m.segment → ⊥)
      → time_in J (credited w ran tick times) i k ≡ time_in J times i k
  told_other i k h q n = split ran.segment (J.segments ran.job)
      (λ (s : ran.segment < J.segments ran.job).
      let j : ran.job < J.jobs = has_job w ran.job ran.segment s in
      let r : m.job < J.jobs = split m.job J.jobs (λ z. z) (λ (z : J.jobs ≤ m.job). absurd (omega (arith, F.none z))) in
      let apart : place J i k ≡ ran_at w ran tick times → ⊥
      = λ (e : place J i k ≡ ran_at w ran tick times).
      let (a, b) = one_place J i ran.job k ran.segment q s (omega (arith, L.firsts ran.job j)) in
      n (a ∙ F.job r) (b ∙ F.segment r) in
      ap (λ (l : List ℕ). get_or l (place J i k) 0) (credit_some w ran tick times s)
      ∙ get_or-set_other times (ran_at w ran tick times) (place J i k) (grown w ran tick times) 0 apart)
      (λ (s : J.segments ran.job ≤ ran.segment). ap (λ (l : List ℕ). get_or l (place J i k) 0) (credit_none w ran tick times s))

  told_next : (i k : ℕ) → i < J.jobs → k < J.segments i
      → time_in J (credited w ran tick times) i k
      ≡ min (put2 m.times m.job m.segment (m.times m.job m.segment + (tick - m.since)) i k) 4294967295
  told_next i k h q = put2_cases (λ x. time_in J (credited w ran tick times) i k ≡ min x 4294967295) m.times m.job m.segment _ i k
      (λ e d. told_same i k h q e d)
      (λ n. told_other i k h q n ∙ F.told i k h q)

  -- one entry more
  pub follows_next : (v : Entry) (job segment : ℕ) → tick ≡ v.tick → job ≡ named J v.job v.job → segment ≡ named J v.job v.segment
      → Follows w (credited w ran tick times) (ran_next w tick job segment) (read_on J m v)
  unfolding read_on
  follows_next v job segment et ej es = record {
    size = credit_length w ran tick times ∙ F.size;
    since = split v.job J.jobs
        (λ (h : v.job < J.jobs). omega (arith, ap J.release (ej ∙ named_some J v.job v.job h)))
        (λ (h : J.jobs ≤ v.job).
        let far : job ≡ 4294967295 = ej ∙ named_none J v.job v.job h in
        omega (arith, no_release w v.job h, no_release w job (omega (arith, L.few_jobs))));
    job = λ h. ej ∙ named_some J v.job v.job h;
    segment = λ h. es ∙ named_some J v.job v.segment h;
    none = λ h. omega (arith, ej ∙ named_none J v.job v.job h, L.few_jobs);
    told = λ i k h q. rw (← et) (told_next i k h q);
  }
