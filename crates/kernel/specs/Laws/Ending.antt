-- The tick at which a run ends depends on releases and execution times alone; the longest times end last.
use Rattle.std.specs.Prelude.{◌≡◌, refl, ◌≢◌, ◌↔◌, true, leb}
use Rattle.std.proofs.Math.Path.{sym, ap, ap₂, fun_ext}
use Rattle.std.proofs.Common.{◌∙◌, arith, leb-false, lt-ltb, le-ltb, le-leb}
use Prim.Native.Nat.{ℕ, zero, suc, ◌+◌, ◌-◌, ◌≤◌, ◌<◌}
use Rattle.std.proofs.Math.Decide.{ℕ_discrete}
use Rattle.std.proofs.Math.Numerals.{add-one}
use Rattle.std.proofs.Math.Dec.{ltb, leb-suc-suc}
use Rattle.std.proofs.lemmas.Bool.{lt-leb}
use Rattle.kernel.specs.Rules.{JobSet, Progress, Run, next_segment, one_tick, dispatched, run_tick, fresh, end_segment, ends, is_in_frame, Within, SomeRunEndsLate}
use Rattle.kernel.specs.Laws.Tests.{split}
use Rattle.kernel.specs.Laws.Places.{put_both, put_cases, put_same, put_other}
use Rattle.kernel.specs.Laws.Control.{Lawful, Positive, positive_times}
use Rattle.kernel.specs.Jobs.{sum}
use Rattle.kernel.specs.Laws.Sums.{sum_le, sum_rises}
use Rattle.kernel.specs.Laws.Choice.{ready_released, ready_open, ready_of, best_ready, best_some}
use Rattle.kernel.specs.Laws.Ticks.{over_cases, end_cases, tick_some, tick_none}
use Rattle.kernel.specs.Laws.Clock.{clock, clock_ge, clock_mono, clock_none, clock_idle, clock_ran}

-- ---- what is left to do

module _ (J : JobSet) (time : ℕ → ℕ → ℕ) where
  -- the ticks that a job takes
  abbrev pub work : ℕ → ℕ
  work i = sum (time i) (J.segments i)

  -- of these, what is left after the ticks that it has had
  abbrev work_left : Progress → ℕ → ℕ
  work_left p i = work i - (sum (time i) (p.segment i) + p.had i)

  -- no unfinished segment has had its time
  abbrev Unended : Progress → Type 0
  Unended p = (i : ℕ) → i < J.jobs → p.segment i < J.segments i → p.had i < time i (p.segment i)

  -- none has had more than its time, and all of it only the running one
  record InTime (r : Run) : Type 0 where
    most : (i : ℕ) → i < J.jobs → r.progress.segment i < J.segments i → r.progress.had i ≤ time i (r.progress.segment i)
    less : (i : ℕ) → i < J.jobs → i ≢ r.running → r.progress.segment i < J.segments i → r.progress.had i < time i (r.progress.segment i)

  next_left : (p : Progress) (j : ℕ) → p.had j ≡ time j (p.segment j) → (i : ℕ) → work_left (next_segment p j) i ≡ work_left p i
  unfolding sum
  next_left p j h = put_both (λ i s a. work i - (sum (time i) s + a) ≡ work_left p i) p.segment p.had j (p.segment j + 1) 0
      (rw add-one (omega arith)) (λ i q. refl)

  -- ---- one tick

  -- 1. the end of a segment leaves it unchanged
  module _ (tick : ℕ) (r : Run) where
    end_left : (i : ℕ) → work_left (end_segment J time tick r).progress i ≡ work_left r.progress i
    end_left i = end_cases J time tick r
        (λ h a e. rw e (next_left r.progress r.running a i))
        (λ n e. rw e)

    end_unended : Positive J time → InTime r → Unended (end_segment J time tick r).progress
    end_unended positive S = end_cases J time tick r
        (λ h a e. rw e (put_both (λ i s a. i < J.jobs → s < J.segments i → a < time i s) r.progress.segment r.progress.had r.running _ 0
        (λ q l. positive r.running (r.progress.segment r.running + 1) q l) (λ i n q l. S.less i q n l)))
        (λ n e. rw e (λ i q l. elim (ℕ_discrete i r.running) [
          | yes x ↦ rw x (omega (arith, rw x at (S.most i q l), n (omega arith)))
          | no x ↦ S.less i q x l
        ]))

  -- 2. to 4. nobody then has more than its time
  tick_intime : (tick : ℕ) (r : Run) → Unended r.progress → InTime (run_tick J tick r)
  tick_intime tick r U =
      let d : ℕ = dispatched J tick r in
      let p : Progress = r.progress in
      split d J.jobs
      (λ (h : d < J.jobs). rw (tick_some J tick r d refl h) (record {
        most = put_cases (λ i a. i < J.jobs → p.segment i < J.segments i → a ≤ time i (p.segment i)) p.had d (p.had d + 1)
            (λ q l. omega (arith, U d q l)) (λ i n q l. omega (arith, U i q l));
        less = λ i q n l. rw (put_other p.had d (p.had d + 1) i n) (U i q l);
      }))
      (λ (h : J.jobs ≤ d). rw (tick_none J tick r h) (record {
        most = λ i q l. omega (arith, U i q l);
        less = λ i q n l. U i q l;
      }))

  -- work is left just of what is unfinished
  closed_left : (p : Progress) (i : ℕ) → J.segments i ≤ p.segment i → work_left p i ≡ 0
  closed_left p i h = omega (arith, sum_rises (time i) (J.segments i) (p.segment i) h)

  had_left : (p : Progress) (i : ℕ) → p.segment i < J.segments i → p.had i < time i (p.segment i)
      → sum (time i) (p.segment i) + p.had i < work i
  unfolding sum
  had_left p i h l = omega (arith, sum_rises (time i) (suc (p.segment i)) (J.segments i) h)

module _ (J : JobSet) (L : Lawful J) (time : ℕ → ℕ → ℕ) where
  -- when all is done, from a tick on
  abbrev end_from : ℕ → Progress → ℕ
  end_from tick p = clock J.release (work_left J time p) tick J.jobs

  tick_clock : (tick : ℕ) (r : Run) → Unended J time r.progress → (i : ℕ) → i < J.jobs → r.progress.segment i < J.segments i
      → end_from (suc tick) (run_tick J tick r).progress ≡ end_from tick r.progress
  tick_clock tick r U i q l =
      let d : ℕ = dispatched J tick r in
      let p : Progress = r.progress in
      split d J.jobs
      (λ (h : d < J.jobs).
      let g = best_ready J L p tick h in
      let o : p.segment d < J.segments d = ready_open J p tick d g in
      rw (tick_some J tick r d refl h) (clock_ran J.release (work_left J time p) (work_left J time (one_tick p d)) d tick
      (λ x z. omega (arith, L.sorted x d z h, ready_released J p tick d g))
      (omega (arith, put_same p.had d (p.had d + 1), had_left J time p d o (U d h o)))
      (λ x n. rw (put_other p.had d (p.had d + 1) x n))
      J.jobs h))
      (λ (h : J.jobs ≤ d). rw (tick_none J tick r h) (clock_idle J.release (work_left J time p) tick J.jobs i
      (λ x z v. split tick (J.release x) (λ y. y) (λ (y : J.release x ≤ tick). split (p.segment x) (J.segments x)
      (λ (o : p.segment x < J.segments x). absurd (omega (arith, best_some J L p tick x z (ready_of J p tick x y o))))
      (λ (o : J.segments x ≤ p.segment x). absurd (omega (arith, closed_left J time p x o)))))
      q (omega (arith, had_left J time p i l (U i q l)))))

  -- a run ends within n ticks just if that tick comes
  abbrev EndsBy : (n tick : ℕ) → Run → Type 0
  EndsBy n tick r = ends J time n tick r ≡ ltb (end_from tick r.progress) (n + tick)

  module _ (positive : Positive J time) where
    ends_step : (n tick : ℕ) (r : Run) → InTime J time r
        → (InTime J time (run_tick J tick (end_segment J time tick r)) → EndsBy n (suc tick) (run_tick J tick (end_segment J time tick r)))
        → EndsBy (suc n) tick r
    unfolding ends
    ends_step n tick r I ih =
        let e : Run = end_segment J time tick r in
        let U : Unended J time e.progress = end_unended J time tick r positive I in
        let same : end_from tick e.progress ≡ end_from tick r.progress
        = ap (λ (w : ℕ → ℕ). clock J.release w tick J.jobs) (fun_ext (end_left J time tick r)) in
        over_cases J e.progress J.jobs
        (λ o c.
        let done : end_from tick e.progress ≡ tick
        = clock_none J.release (work_left J time e.progress) tick J.jobs (λ i h. closed_left J time e.progress i (c i h)) in
        rw o (sym (lt-ltb (end_from tick r.progress) (suc n + tick) (omega arith))))
        (λ o i h l. rw o (ih (tick_intime J time tick e U) ∙ ap₂ ltb (tick_clock tick e U i h l ∙ same) (omega arith)))

    ends_by : (n tick : ℕ) (r : Run) → InTime J time r → EndsBy n tick r
    unfolding ends
    ends_by zero tick r I = sym (le-ltb (end_from tick r.progress) (zero + tick)
        (omega (arith, clock_ge J.release (work_left J time r.progress) tick J.jobs)))
    ends_by (suc n) tick r I = ends_step n tick r I (λ K. ends_by n (suc tick) (run_tick J tick (end_segment J time tick r)) K)

-- ---- the end of a run

-- the tick at which the run with these times ends
abbrev pub end_of : JobSet → (ℕ → ℕ → ℕ) → ℕ
end_of J time = clock J.release (work J time) 0 J.jobs

-- longer times end no earlier
pub end_mono : (J : JobSet) (time more : ℕ → ℕ → ℕ) → ((i k : ℕ) → i < J.jobs → k < J.segments i → time i k ≤ more i k)
    → end_of J time ≤ end_of J more
end_mono J time more h = clock_mono J.release (work J time) (work J more) 0 J.jobs
    (λ i q. sum_le (time i) (more i) (J.segments i) (λ k l. h i k q l))

-- with the longest times
abbrev pub last_end : JobSet → ℕ
last_end J = end_of J J.longest

module _ (J : JobSet) (L : Lawful J) (time : ℕ → ℕ → ℕ) (W : Within J time) where
  fresh_intime : InTime J time (fresh J)
  fresh_intime = record { most = λ i q l. omega arith; less = λ i q n l. positive_times J L time W i 0 q l }

  pub ends_at : (n : ℕ) → ends J time n 0 (fresh J) ≡ ltb (end_of J time) n
  unfolding sum
  ends_at n = ends_by J L time (positive_times J L time W) n 0 (fresh J) fresh_intime
      ∙ ap₂ ltb (ap (λ (w : ℕ → ℕ). clock J.release w 0 J.jobs) (fun_ext (λ i. omega arith))) (omega arith)

  -- the run ends in its frame just if that tick is in it
  pub in_frame : is_in_frame J time ≡ leb (end_of J time) J.frame
  in_frame = ends_at (suc J.frame) ∙ leb-suc-suc (end_of J time) J.frame

module _ (J : JobSet) (L : Lawful J) where
  -- where the longest times end in the frame, all do
  pub all_in_frame : last_end J ≤ J.frame → (time : ℕ → ℕ → ℕ) → Within J time → is_in_frame J time ≡ true
  all_in_frame h time W = in_frame J L time W ∙ le-leb (end_of J time) J.frame (omega (arith, end_mono J time J.longest W.high))

  longest_within : Within J J.longest
  longest_within = record { low = L.ordered; high = λ i k q l. omega arith }

  -- refusal 5 is decided by the longest times
  pub late_iff : J.frame < last_end J ↔ SomeRunEndsLate J
  late_iff = (
    λ h. record { time = J.longest; within = longest_within; late = in_frame J L J.longest longest_within ∙ lt-leb (last_end J) J.frame h },
    λ s. omega (arith, leb-false (end_of J s.time) J.frame (sym (in_frame J L s.time s.within) ∙ s.late), end_mono J s.time J.longest s.within.high),
  )
