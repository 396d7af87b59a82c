-- One tick of the rules, by cases.
use Rattle.std.specs.Prelude.{◌≡◌, refl, true, false, [], ℕ, zero, suc, ◌≤◌, ◌<◌}
use Rattle.std.proofs.Common.{arith}
use Rattle.std.proofs.Math.Decide.{ℕ_discrete}
use borrow.Author.Tests.{lt-ltb, le-ltb, le-leb, lt-leb, eq-eqb, ne_eqb}
use Rattle.kernel.specs.Rules.{JobSet, Progress, all_finished, Due, cutting, leaving, Run, next_segment, one_tick, reported, dispatched, run_tick, switch_at, leave_kind, end_segment}
use Rattle.kernel.specs.Laws.Tests.{split, below}

-- j has had the last tick
abbrev pub serving : Progress → ℕ → Run
serving q j = record { progress = q; running = j; due = cutting }

-- none has had it, and this is due
abbrev pub waiting : JobSet → Progress → Due → Run
waiting J q D = record { progress = q; running = J.jobs; due = D }

-- all jobs below n are finished, or one is not
pub over_cases : {X : Type 0} (J : JobSet) (p : Progress) (n : ℕ)
    → (all_finished J p n ≡ true → ((i : ℕ) → i < n → J.segments i ≤ p.segment i) → X)
    → (all_finished J p n ≡ false → (i : ℕ) → i < n → p.segment i < J.segments i → X) → X
unfolding all_finished
over_cases J p zero f g = f refl (λ i h. absurd (omega arith))
over_cases J p (suc n) f g = split (p.segment n) (J.segments n)
    (λ (q : p.segment n < J.segments n). g (rw (lt-leb (J.segments n) (p.segment n) q)) n (omega arith) q)
    (λ (q : J.segments n ≤ p.segment n). over_cases J p n
    (λ e c. f (rw (le-leb (J.segments n) (p.segment n) q) e) (below (λ i. J.segments i ≤ p.segment i) n c q))
    (λ e i h. g (rw (le-leb (J.segments n) (p.segment n) q) e) i (omega arith)))

-- ---- 1. the end of a segment

-- the running job has left its segment
abbrev pub after_end : JobSet → (tick : ℕ) → Run → Run
after_end J tick r = waiting J (next_segment r.progress r.running) (leaving (leave_kind J r.progress r.running) tick)

-- the running segment has had its time
abbrev pub AllHad : (ℕ → ℕ → ℕ) → Run → Type 0
AllHad time r = r.progress.had r.running ≡ time r.running (r.progress.segment r.running)

module _ (J : JobSet) (time : ℕ → ℕ → ℕ) (tick : ℕ) (r : Run) where
  pub end_yes : r.running < J.jobs → AllHad time r → end_segment J time tick r ≡ after_end J tick r
  unfolding end_segment
  end_yes h e = rw (lt-ltb r.running J.jobs h, eq-eqb _ _ e)

  pub end_not : r.running < J.jobs → ¬ AllHad time r → end_segment J time tick r ≡ r
  unfolding end_segment
  end_not h e = rw (lt-ltb r.running J.jobs h, ne_eqb _ _ e)

  pub end_none : J.jobs ≤ r.running → end_segment J time tick r ≡ r
  unfolding end_segment
  end_none h = rw (le-ltb r.running J.jobs h)

  pub end_cases : {X : Type 0} → (r.running < J.jobs → AllHad time r → end_segment J time tick r ≡ after_end J tick r → X)
      → ((r.running < J.jobs → ¬ AllHad time r) → end_segment J time tick r ≡ r → X) → X
  end_cases f g = split r.running J.jobs
      (λ h. elim (ℕ_discrete (r.progress.had r.running) (time r.running (r.progress.segment r.running))) [
        | yes e ↦ f h e (end_yes h e)
        | no e ↦ g (λ q. e) (end_not h e)
      ])
      (λ (h : J.jobs ≤ r.running). g (λ q. absurd (omega arith)) (end_none h))

-- ---- 2. to 4. a dispatch

module _ (J : JobSet) (tick : ℕ) (r : Run) where
  pub tick_some : (d : ℕ) → dispatched J tick r ≡ d → d < J.jobs → run_tick J tick r ≡ serving (one_tick r.progress d) d
  unfolding run_tick
  tick_some d e h = rw (e, lt-ltb d J.jobs h)

  pub tick_none : J.jobs ≤ dispatched J tick r → run_tick J tick r ≡ waiting J r.progress r.due
  unfolding run_tick
  tick_none h = rw (le-ltb (dispatched J tick r) J.jobs h)

  pub switch_some : (d : ℕ) → dispatched J tick r ≡ d → d < J.jobs → switch_at J tick r ≡ reported tick r.running d (r.progress.segment d) r.due
  unfolding switch_at
  switch_some d e h = rw (e, lt-ltb d J.jobs h)

  pub switch_none : J.jobs ≤ dispatched J tick r → switch_at J tick r ≡ []
  unfolding switch_at
  switch_none h = rw (le-ltb (dispatched J tick r) J.jobs h)
