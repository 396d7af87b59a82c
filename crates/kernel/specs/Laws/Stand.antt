-- Where a run of the rules stands, by its control and by what is left of each segment; and how a tick moves it.
use Rattle.std.specs.Prelude.{◌≡◌, refl, Bool, true, false, ◌||◌, [], ℕ, suc, ◌+◌, ◌-◌, ◌≤◌, ◌<◌, ltb}
use Rattle.std.proofs.Math.Path.{sym, ap, ap₂, fun_ext}
use Rattle.std.proofs.Common.{◌∙◌, arith, add-one, lt-ltb}
use Rattle.std.proofs.Math.Decide.{ℕ_discrete}
use Rattle.kernel.specs.Rules.{JobSet, Progress, begun, put, next_segment, one_tick, Run, reported, dispatched, over, end_segment}
use Rattle.kernel.specs.Laws.Places.{put_same, put_other, put_cases, put_both, put2, put2_cases}
use Rattle.kernel.specs.Laws.Pick.{pick_real}
use Rattle.kernel.specs.Laws.Control.{Lawful, Control, control_of, leave, mark, weight, picked, released}
use Rattle.kernel.specs.Laws.Fall.{alive_seg}
use Rattle.kernel.specs.Laws.Choice.{choice}
use Rattle.kernel.specs.Laws.Ticks.{serving, waiting, over_cases, after_end, end_yes, end_not, tick_some, tick_none, switch_some, switch_none}
use Rattle.kernel.specs.Laws.Leads.{Leads, leads_tick}

-- ---- the control, as the progress moves

or_true : (b : Bool) → (b || true) ≡ true
or_true true = refl
or_true false = refl

-- a tick of d
tick_control : (p : Progress) (d : ℕ) → control_of (one_tick p d) ≡ mark (control_of p) d
unfolding mark
tick_control p d = λ z. record { segment = p.segment; begun = fun_ext same z }
  where
    same : (i : ℕ) → begun (one_tick p d) i ≡ put (begun p) d true i
    same i = elim (ℕ_discrete i d) [
      | yes e ↦ rw (e, put_same p.had d (p.had d + 1), put_same (begun p) d true, lt-ltb 0 (p.had d + 1) (omega arith)) (or_true (ltb 0 (p.segment d)))
      | no e ↦ rw (put_other p.had d (p.had d + 1) i e, put_other (begun p) d true i e)
    ]

-- the end of a segment of j, which has begun
next_control : (p : Progress) (j : ℕ) → begun p j ≡ true → control_of (next_segment p j) ≡ leave (control_of p) j
unfolding leave
next_control p j h = λ z. record { segment = put p.segment j (add-one (p.segment j) z); begun = fun_ext same z }
  where
    same : (i : ℕ) → begun (next_segment p j) i ≡ begun p i
    same i = elim (ℕ_discrete i j) [
      | yes e ↦ rw (e, put_same p.segment j (p.segment j + 1), put_same p.had j 0, lt-ltb 0 (p.segment j + 1) (omega arith)) (sym h)
      | no e ↦ rw (put_other p.segment j (p.segment j + 1) i e, put_other p.had j 0 i e)
    ]

-- ---- standing

module _ (J : JobSet) (time : ℕ → ℕ → ℕ) where
  -- the progress of a run has this control, and of each unfinished segment this much is left
  pub record Stands (p : Progress) (κ : Control) (left : ℕ → ℕ → ℕ) : Type 0 where
    pub control : κ ≡ control_of p
    pub now : (i : ℕ) → i < J.jobs → κ.segment i < J.segments i → left i (κ.segment i) + p.had i ≡ time i (κ.segment i)
    pub later : (i k : ℕ) → i < J.jobs → κ.segment i < k → k < J.segments i → left i k ≡ time i k
    pub nobody : κ.segment J.jobs ≡ 0

  -- d has had a tick
  pub stands_tick : (p : Progress) (κ : Control) (left : ℕ → ℕ → ℕ) (d : ℕ) → 1 ≤ left d (κ.segment d) → Stands p κ left
      → Stands (one_tick p d) (mark κ d) (put2 left d (κ.segment d) (left d (κ.segment d) - 1))
  unfolding mark
  stands_tick p κ left d h s = record {
    control = ap (λ (x : Control). mark x d) s.control ∙ sym (tick_control p d);
    now = λ i q l. put2_cases (λ v. v + put p.had d (p.had d + 1) i ≡ time i (κ.segment i))
        left d (κ.segment d) (left d (κ.segment d) - 1) i (κ.segment i)
        (λ e f. omega (arith, ap (put p.had d (p.had d + 1)) e, put_same p.had d (p.had d + 1), s.now i q l, ap₂ left e f, ap p.had e))
        (λ n. omega (arith, put_other p.had d (p.had d + 1) i (λ e. n e (ap κ.segment e)), s.now i q l));
    later = λ i x q a b. put2_cases (λ v. v ≡ time i x) left d (κ.segment d) (left d (κ.segment d) - 1) i x
        (λ e f. absurd (omega (arith, ap κ.segment e))) (λ n. s.later i x q a b);
    nobody = s.nobody;
  }

  -- j, which has begun, has left its segment
  pub stands_leave : (p : Progress) (κ : Control) (left : ℕ → ℕ → ℕ) (j : ℕ) → j < J.jobs → κ.begun j ≡ true
      → Stands p κ left → Stands (next_segment p j) (leave κ j) left
  unfolding leave
  stands_leave p κ left j h b s = record {
    control = ap (λ (x : Control). leave x j) s.control ∙ sym (next_control p j (ap (λ (x : Control). x.begun j) (sym s.control) ∙ b));
    now = put_both (λ i x a. i < J.jobs → x < J.segments i → left i x + a ≡ time i x) κ.segment p.had j (suc (κ.segment j)) 0
        (λ q l. omega (arith, s.later j (suc (κ.segment j)) q (omega arith) l)) (λ i n. s.now i);
    later = λ i x. put_cases (λ i y. i < J.jobs → y < x → x < J.segments i → left i x ≡ time i x) κ.segment j (suc (κ.segment j))
        (λ q a. s.later j x q (omega arith)) (λ i n. s.later i x) i;
    nobody = put_other κ.segment j (suc (κ.segment j)) J.jobs (omega arith) ∙ s.nobody;
  }

-- ---- a tick

module _ (J : JobSet) (L : Lawful J) (time : ℕ → ℕ → ℕ) (r : Run) (κ : Control) (left : ℕ → ℕ → ℕ) (s : Stands J time r.progress κ left) where
  -- the rules dispatch by the control's weights
  chosen : (t : ℕ) → dispatched J t r ≡ picked J κ t
  chosen t = choice J L r.progress t ∙ ap (λ (x : Control). picked J x t) (sym s.control)

  -- the running segment has had its time just if nothing is left of it
  module _ (h : r.running < J.jobs) (l : κ.segment r.running < J.segments r.running) where
    had_is : left r.running (κ.segment r.running) + r.progress.had r.running ≡ time r.running (r.progress.segment r.running)
    had_is = s.now r.running h l ∙ ap (λ (x : Control). time r.running (x.segment r.running)) s.control

    pub end_on : (t : ℕ) → 1 ≤ left r.running (κ.segment r.running) → end_segment J time t r ≡ r
    end_on t z = end_not J time t r h (λ e. omega (arith, had_is))

    pub end_off : (t : ℕ) → left r.running (κ.segment r.running) ≡ 0 → end_segment J time t r ≡ after_end J t r
    end_off t z = end_yes J time t r h (omega (arith, had_is))

  -- it is not over as long as one is unfinished
  not_over : (i : ℕ) → i < J.jobs → κ.segment i < J.segments i → over J r ≡ false
  not_over i h l = over_cases J r.progress J.jobs
      (λ e c. absurd (omega (arith, c i h, ap (λ (x : Control). x.segment i) s.control)))
      (λ e x a b. e)

  -- a tick that d has
  pub tick_of : (t d : ℕ) → end_segment J time t r ≡ r → picked J κ t ≡ d → d < J.jobs
      → Leads J time (reported t r.running d (κ.segment d) r.due) t r (suc t) (serving (one_tick r.progress d) d)
  tick_of t d q e h =
      let c : dispatched J t r ≡ d = chosen t ∙ e in
      let g : κ.segment d ≡ r.progress.segment d = ap (λ (x : Control). x.segment d) s.control in
      let z : 0 < weight J κ d = rw e at (pick_real _ _ _ (released J L κ) t (omega arith)) in
      rw (g, ← switch_some J t r d c h, ← tick_some J t r d c h) (leads_tick J time t r r q (not_over d h (alive_seg J κ d z)))

  -- a tick that none has
  pub tick_idle : (t : ℕ) → end_segment J time t r ≡ r → J.jobs ≤ picked J κ t → (i : ℕ) → i < J.jobs → κ.segment i < J.segments i
      → Leads J time [] t r (suc t) (waiting J r.progress r.due)
  tick_idle t q h i a b =
      let c : J.jobs ≤ dispatched J t r = omega (arith, chosen t) in
      rw (← switch_none J t r c, ← tick_none J t r c) (leads_tick J time t r r q (not_over i a b))
