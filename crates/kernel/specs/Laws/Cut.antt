-- When a running segment is left, in releases, bases and priorities.
use Rattle.std.proofs.Math.Path.{◌≡◌}
use Rattle.std.specs.Prelude.{refl, ◌↔◌, true, false, ℕ, suc, ◌+◌, ◌-◌, ◌*◌, ◌≤◌, ◌<◌}
use Rattle.std.proofs.Common.{sym, ap, ◌∙◌, arith}
use Rattle.kernel.specs.Rules.{JobSet, Progress, best, STEP, END, CUT}
use Rattle.kernel.specs.Laws.Tests.{split, if-lt, if-ge}
use Rattle.kernel.specs.Laws.Places.{put2_same}
use Rattle.kernel.specs.Laws.Control.{Lawful, Control, control_of, weight, picked}
use Rattle.kernel.specs.Laws.Fall.{alive_seg}
use Rattle.kernel.specs.Laws.Choice.{choice}
use Rattle.kernel.specs.Laws.Step.{State, Point, present, leave_kind_of, out_at, step}
use Rattle.kernel.specs.Laws.Sound.{SoundAt, done_tick, leave_tick, leave_law, leave_after, keeps, step_cases, bool_false}

weight_begun : (J : JobSet) (κ : Control) (i : ℕ) → κ.segment i < J.segments i → κ.begun i ≡ true → weight J κ i ≡ 2 * J.priority i (κ.segment i) + 2
unfolding weight
weight_begun J κ i h b = rw (if-lt _ _ _ _ h, b)

weight_new : (J : JobSet) (κ : Control) (i : ℕ) → κ.segment i < J.segments i → κ.begun i ≡ false → weight J κ i ≡ 2 * J.base i + 1
unfolding weight
weight_new J κ i h b = rw (if-lt _ _ _ _ h, b)

module _ (J : JobSet) (S : State) (p : Point) where
  -- job i, unfinished, is released after the dispatch, and its base is larger than the priority of the running segment
  pub record CanCut (i : ℕ) : Type 0 where
    pub inside : i < J.jobs
    pub unfinished : S.control.segment i < J.segments i
    pub later : p.start < J.release i
    pub larger : J.priority S.job (present S) < J.base i

  -- the running segment is left at t: when it has had its time, or at the first release of a job that can cut it, whichever is first
  pub record LeftAt (t : ℕ) : Type 0 where
    pub started : p.start < t
    pub in_time : t ≤ p.start + p.left S.job (present S)
    pub no_later : (i : ℕ) → CanCut i → t ≤ J.release i
    pub is_release : t < p.start + p.left S.job (present S) → (i : ℕ) × CanCut i × (J.release i ≡ t)

module _ (J : JobSet) (L : Lawful J) (S : State) (p : Point) (O : SoundAt J S p) where
  -- a job that is released later has not begun
  new_above : (i : ℕ) → p.start < J.release i → S.control.begun i ≡ false
  new_above i h = bool_false _ (λ b. omega (arith, O.was i b))

  weight_here : weight J S.control S.job ≡ 2 * J.priority S.job (present S) + 2
  weight_here = weight_begun J S.control S.job (alive_seg J S.control S.job O.alive) O.on

  left_at_tick : LeftAt J S p (leave_tick J S p)
  left_at_tick = record {
    started = leave_after J L S p O;
    in_time = (leave_law J L S p O).le;
    no_later = λ i A. (leave_law J L S p O).least i A.inside
        (omega (arith, weight_here, weight_new J S.control i A.unfinished (new_above i A.later), A.larger)) A.later;
    is_release = λ h. let (i, a1, a2, a3, a4) = (leave_law J L S p O).hit h in
        let l = alive_seg J S.control i (omega arith) in
        (i, record { inside = a1; unfinished = l; later = a3; larger = omega (arith, weight_here, weight_new J S.control i l (new_above i a3)) }, sym a4);
  }

  step_tick : (step J S p).tick ≡ leave_tick J S p
  unfolding out_at
  step_tick = step_cases J S p (λ o. o.tick ≡ leave_tick J S p) (λ h. refl) (λ h. refl)

  pub left_at : LeftAt J S p (step J S p).tick
  left_at = rw step_tick left_at_tick

  -- until then it keeps the processor: the rules dispatch its job at every tick, whatever it has had
  pub keeps_on : (q : Progress) → S.control ≡ control_of q → (u : ℕ) → p.start ≤ u → u < (step J S p).tick → best J q u J.jobs ≡ S.job
  keeps_on q e u a b = choice J L q u ∙ ap (λ (x : Control). picked J x u) (sym e) ∙ keeps J L S p O u a (omega (arith, step_tick))

-- ---- by which kind

module _ (J : JobSet) (S : State) (p : Point) where
  not_cut : leave_kind_of J S ≡ CUT → ⊥
  unfolding leave_kind_of
  not_cut = split (suc (present S)) (J.segments S.job)
      (λ h. rw (if-lt (suc (present S)) (J.segments S.job) STEP END h) (λ (c : STEP ≡ CUT). let z : ◌≡◌ {A = ℕ} 0 1 = cc in omega arith))
      (λ h. rw (if-ge (suc (present S)) (J.segments S.job) STEP END h) (λ (c : END ≡ CUT). let z : ◌≡◌ {A = ℕ} 0 1 = cc in omega arith))

  -- a segment that has had its time is left by END or STEP, also on the tick of a release
  pub end_kind : done_tick S p ≤ (step J S p).tick → (step J S p).kind ≡ leave_kind_of J S
  unfolding out_at
  end_kind = step_cases J S p (λ o. done_tick S p ≤ o.tick → o.kind ≡ leave_kind_of J S) (λ h q. absurd (omega arith)) (λ h q. refl)

  -- it is cut just if it has not yet had its time
  pub cut_iff : (step J S p).kind ≡ CUT ↔ (step J S p).tick < done_tick S p
  unfolding out_at
  cut_iff = step_cases J S p (λ o. o.kind ≡ CUT ↔ o.tick < done_tick S p)
      (λ h. (λ c. h, λ q. refl))
      (λ h. (λ c. absurd (not_cut c), λ q. absurd (omega arith)))

  -- a cut leaves the rest of its time, at least one tick
  pub cut_leaves : (step J S p).kind ≡ CUT
      → (1 ≤ (step J S p).point.left S.job (present S)) × ((step J S p).tick + (step J S p).point.left S.job (present S) ≡ done_tick S p)
  unfolding out_at
  cut_leaves = step_cases J S p
      (λ o. o.kind ≡ CUT → (1 ≤ o.point.left S.job (present S)) × (o.tick + o.point.left S.job (present S) ≡ done_tick S p))
      (λ h c. omega (arith, put2_same p.left S.job (present S) (done_tick S p - leave_tick J S p)))
      (λ h c. absurd (not_cut c))
