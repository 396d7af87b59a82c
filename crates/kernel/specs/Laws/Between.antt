-- The ticks from one dispatch to the next make the switch of `step`, and no other.
use Rattle.std.specs.Prelude.{◌≡◌, refl, ◌≢◌, true, [], ◌∷◌}
use Rattle.std.proofs.Common.{ap, arith}
use Prim.Native.Nat.{ℕ, zero, suc, ◌+◌, ◌-◌, ◌≤◌, ◌<◌, max}
use borrow.Author.Tests.{eq-eqb, ne_eqb}
use Rattle.kernel.specs.Rules.{JobSet, Progress, next_segment, one_tick, STEP, END, CUT, Due, cutting, leaving, Run, reported, leave_kind, last_switch, end_segment}
use Rattle.kernel.specs.Laws.Tests.{split, if-lt, if-ge}
use Rattle.kernel.specs.Laws.Places.{put-noop, put2, put2_same, put2_twice}
use Rattle.kernel.specs.Laws.Pick.{disp, next_now, next_then, next_idle}
use Rattle.kernel.specs.Laws.Control.{Lawful, Control, leave, mark, weight, picked, after, start_after, released}
use Rattle.kernel.specs.Laws.Fall.{alive_seg, seg_alive}
use Rattle.kernel.specs.Laws.Step.{State, dispatch, Point, Out, present, leave_kind_of, out_at, step, switch_of}
use Rattle.kernel.specs.Laws.Sound.{SoundAt, done_tick, leave_tick, keeps, leave_law, leave_after, cut_heavier, cut_undone, leave_undone, cut_out, leave_out, step_cases}
use Rattle.kernel.specs.Laws.Ticks.{serving, waiting, over_cases, end_none}
use Rattle.kernel.specs.Laws.Leads.{Leads, Closes, leads_none, leads_leads, leads_closes, leads_end, closes_tick}
use Rattle.kernel.specs.Laws.Stand.{Stands, stands_tick, stands_leave, end_on, end_off, tick_of, tick_idle}

-- a job that goes on reports nothing
none_reported : (t j k : ℕ) → reported t j j k cutting ≡ []
unfolding reported
none_reported t j k = rw (eq-eqb j j refl)

cut_reported : (t j d k : ℕ) → d ≢ j → reported t j d k cutting ≡ record { kind = CUT; tick = t; job = d; segment = k; start = t } ∷ []
unfolding reported
cut_reported t j d k n = rw (ne_eqb d j n)

mark_noop : (κ : Control) (j : ℕ) → κ.begun j ≡ true → mark κ j ≡ κ
unfolding mark
mark_noop κ j h = λ z. record { segment = κ.segment; begun = put-noop κ.begun j true h z }

-- ---- the running job keeps the processor

module _ (J : JobSet) (L : Lawful J) (time : ℕ → ℕ → ℕ) (κ : Control) (left : ℕ → ℕ → ℕ) (j : ℕ)
    (inside : j < J.jobs) (on : κ.begun j ≡ true) (open_j : κ.segment j < J.segments j) where
  -- what is left, y of the running segment
  abbrev having : ℕ → ℕ → ℕ → ℕ
  having y = put2 left j (κ.segment j) y

  keep_leads : (t w : ℕ) (q : Progress) → 1 ≤ w → picked J κ t ≡ j → Stands J time q κ (having w)
      → Leads J time [] t (serving q j) (suc t) (serving (one_tick q j) j)
  keep_leads t w q z e s =
      rw (← none_reported t j (κ.segment j)) (tick_of J L time (serving q j) κ (having w) s t j
      (end_on J L time (serving q j) κ (having w) s inside open_j t (omega (arith, put2_same left j (κ.segment j) w))) e inside)

  keep_stands : (w : ℕ) (q : Progress) → 1 ≤ w → Stands J time q κ (having w) → Stands J time (one_tick q j) κ (having (w - 1))
  keep_stands w q z s =
      let v = put2_same left j (κ.segment j) w in
      rw (v, put2_twice left j (κ.segment j) w (w - 1), mark_noop κ j on) at (stands_tick J time q κ (having w) j (omega arith) s)

  abbrev Kept : (t u y : ℕ) → Progress → Type 0
  Kept t u y q = (q' : Progress) × Leads J time [] t (serving q j) u (serving q' j) × Stands J time q' κ (having y)

  keep_step : (t u y : ℕ) (q q' : Progress) → Leads J time [] t (serving q j) (suc t) (serving q' j) → Kept (suc t) u y q' → Kept t u y q
  keep_step t u y q q' f g = (g.0, leads_leads J time f g.1, g.2)

  keep : (x t u y : ℕ) → u ≡ t + x → ((v : ℕ) → t ≤ v → v < u → picked J κ v ≡ j)
      → (q : Progress) → Stands J time q κ (having (x + y)) → Kept t u y q
  keep zero t u y e f q s =
      let e1 : u ≡ t = omega arith in
      let e2 : zero + y ≡ y = omega arith in
      (q, rw e1 (leads_none J time t (serving q j)), rw e2 at s)
  keep (suc x) t u y e f q s =
      let e1 : (suc x + y) - 1 ≡ x + y = omega arith in
      keep_step t u y q (one_tick q j) (keep_leads t (suc x + y) q (omega arith) (f t (omega arith) (omega arith)) s)
      (keep x (suc t) u y (omega arith) (λ v a b. f v (omega arith) b) (one_tick q j) (rw e1 at (keep_stands (suc x + y) q (omega arith) s)))

-- ---- none runs until one is released

module _ (J : JobSet) (L : Lawful J) (time : ℕ → ℕ → ℕ) (q : Progress) (κ : Control) (left : ℕ → ℕ → ℕ) (s : Stands J time q κ left) (D : Due) where
  abbrev still : Run
  still = waiting J q D

  still_on : (t : ℕ) → end_segment J time t still ≡ still
  still_on t = end_none J time t still (omega arith)

  idle : (x t u i : ℕ) → u ≡ t + x → ((v : ℕ) → t ≤ v → v < u → J.jobs ≤ picked J κ v)
      → i < J.jobs → κ.segment i < J.segments i → Leads J time [] t still u still
  idle zero t u i e f h l = let e1 : u ≡ t = omega arith in rw e1 (leads_none J time t still)
  idle (suc x) t u i e f h l = leads_leads J time (tick_idle J L time still κ left s t (still_on t) (f t (omega arith) (omega arith)) i h l)
      (idle x (suc t) u i (omega arith) (λ v a b. f v (omega arith) b) h l)

  -- the next dispatch after a leaving at t
  pub wait_leads : (t : ℕ) → after J κ t < J.jobs
      → Leads J time (reported (start_after J κ t) J.jobs (after J κ t) (κ.segment (after J κ t)) D) t still
      (suc (start_after J κ t)) (serving (one_tick q (after J κ t)) (after J κ t))
  wait_leads t h =
      let R = released J L κ in
      let d : ℕ = after J κ t in
      leads_leads J time
      (idle (start_after J κ t - t) t (start_after J κ t) d (omega arith) (λ v a b. next_idle _ _ _ R t v a (omega arith))
      h (alive_seg J κ d ((disp _ _ _ R t).real h)))
      (tick_of J L time still κ left s (start_after J κ t) d (still_on (start_after J κ t)) (next_then _ _ _ R t) h)

  -- all are finished
  pub wait_closes : (t : ℕ) → J.jobs ≤ after J κ t → Closes J time (last_switch J D) t still
  wait_closes t h = closes_tick J time t still still (still_on t) (over_cases J q J.jobs
      (λ e c. e)
      (λ e i a b. absurd (omega (arith, (disp _ _ _ (released J L κ) t).some i a (seg_alive J κ i (omega (arith, ap (λ (x : Control). x.segment i) s.control)))))))

-- ---- from a dispatch to the next

-- the run whose progress is q stands right after the tick of the dispatch of S
abbrev pub Served : JobSet → (time : ℕ → ℕ → ℕ) → State → Point → Progress → Type 0
Served J time S p q = Stands J time q S.control (put2 p.left S.job (present S) (p.left S.job (present S) - 1))

-- from there the ticks lead with the switch o alone to where it stands right after the tick of the next dispatch
pub record Reaches (J : JobSet) (time : ℕ → ℕ → ℕ) (S : State) (p : Point) (q : Progress) (o : Out) : Type 0 where
  pub to : Progress
  pub leads : Leads J time (switch_of J o ∷ []) (suc p.start) (serving q S.job) (suc o.point.start) (serving to o.state.job)
  pub served : Served J time o.state o.point to

module _ (J : JobSet) (L : Lawful J) (time : ℕ → ℕ → ℕ) (S : State) (p : Point) (O : SoundAt J S p) (q : Progress) (s : Served J time S p q) where
  abbrev κ : Control
  κ = S.control

  abbrev j : ℕ
  j = S.job

  abbrev k : ℕ
  k = present S

  abbrev t : ℕ
  t = leave_tick J S p

  abbrev e : ℕ
  e = done_tick S p

  open_j : κ.segment j < J.segments j
  open_j = alive_seg J κ j O.alive

  -- up to the tick of leaving
  approach : Kept J L time κ p.left j O.inside O.on open_j (suc p.start) t (e - t) q
  approach =
      let h1 : p.start < t = leave_after J L S p O in
      let h2 : t ≤ e = (leave_law J L S p O).le in
      let c : p.left j k - 1 ≡ (t - suc p.start) + (e - t) = omega arith in
      keep J L time κ p.left j O.inside O.on open_j (t - suc p.start) (suc p.start) t (e - t) (omega arith)
      (λ v a b. keeps J L S p O v (omega arith) b) q (rw c at s)

  -- ---- where it is cut

  at_once : start_after J κ t ≡ t
  at_once = split t (J.release (after J κ t))
      (λ (h : t < J.release (after J κ t)). omega (arith, (disp _ _ _ (released J L κ) t).idle h j O.inside O.alive, O.out, leave_after J L S p O))
      (λ (h : J.release (after J κ t) ≤ t). omega arith)

  cut_leads : t < e → (q' : Progress) → Stands J time q' κ (put2 p.left j k (e - t))
      → Leads J time (record { kind = CUT; tick = t; job = after J κ t; segment = κ.segment (after J κ t); start = t } ∷ []) t (serving q' j)
      (suc t) (serving (one_tick q' (after J κ t)) (after J κ t))
  cut_leads h q' s' =
      let d : ℕ = after J κ t in
      let (h1, h2) = cut_heavier J L S p O h in
      let n : d ≢ j = λ x. omega (arith, ap (weight J κ) x) in
      rw (← cut_reported t j d (κ.segment d) n) (tick_of J L time (serving q' j) κ (put2 p.left j k (e - t)) s' t d
      (end_on J L time (serving q' j) κ (put2 p.left j k (e - t)) s' O.inside open_j t (omega (arith, put2_same p.left j k (e - t))))
      (next_now _ _ _ (released J L κ) t j O.inside O.alive (omega (arith, O.out, leave_after J L S p O))) h2)

  cut_goes : t < e → J.jobs ≤ (cut_out J S p).state.job → ⊥
  unfolding out_at dispatch
  cut_goes h g = omega (arith, (cut_heavier J L S p O h).1)

  cut_reaches : t < e → Reaches J time S p q (cut_out J S p)
  unfolding out_at switch_of dispatch mark
  cut_reaches h =
      let (q', f, s') = approach in
      let d : ℕ = after J κ t in
      let (h1, h2) = cut_heavier J L S p O h in
      record {
        to = one_tick q' d;
        leads = rw at_once (leads_leads J time f (cut_leads h q' s'));
        served = stands_tick J time q' κ (put2 p.left j k (e - t)) d
            ((cut_undone J L S p O h).some d (κ.segment d) h2 (omega arith) (alive_seg J κ d (omega arith))) s';
      }

  -- ---- where it is not

  same_kind : (q' : Progress) → κ.segment j ≡ q'.segment j → leave_kind J q' j ≡ leave_kind_of J S
  unfolding leave_kind_of
  same_kind q' g = split (suc k) (J.segments j)
      (λ (l : suc k < J.segments j). rw (if-lt (suc k) (J.segments j) STEP END l, ne_eqb (q'.segment j + 1) (J.segments j) (omega arith)))
      (λ (l : J.segments j ≤ suc k). rw (if-ge (suc k) (J.segments j) STEP END l, eq-eqb (q'.segment j + 1) (J.segments j) (omega (arith, open_j))))

  left_leads : (q' : Progress) → Stands J time q' κ (put2 p.left j k 0)
      → Leads J time [] t (serving q' j) t (waiting J (next_segment q' j) (leaving (leave_kind_of J S) t))
  left_leads q' s' = rw (
    end_off J L time (serving q' j) κ (put2 p.left j k 0) s' O.inside open_j t (put2_same p.left j k 0),
    same_kind q' (ap (λ (x : Control). x.segment j) s'.control),
  ) at (leads_end J time t (serving q' j))

  -- the segment has had its time
  off : e ≤ t → (q' : Progress) × Leads J time [] (suc p.start) (serving q j) t (waiting J q' (leaving (leave_kind_of J S) t))
      × Stands J time q' (leave κ j) (put2 p.left j k 0)
  off h =
      let (q', f, s') = approach in
      let c : e - t ≡ 0 = omega arith in
      let s'' = rw c at s' in
      (next_segment q' j, leads_leads J time f (left_leads q' s''), stands_leave J time q' κ (put2 p.left j k 0) j O.inside O.on s'')

  leave_reaches : e ≤ t → (leave_out J S p).state.job < J.jobs → Reaches J time S p q (leave_out J S p)
  unfolding out_at switch_of dispatch mark reported
  leave_reaches h g =
      let (q', f, s') = off h in
      let κ' : Control = leave κ j in
      let d : ℕ = after J κ' t in
      let z : 0 < weight J κ' d = (disp _ _ _ (released J L κ') t).real g in
      record {
        to = one_tick q' d;
        leads = leads_leads J time f (wait_leads J L time q' κ' (put2 p.left j k 0) s' (leaving (leave_kind_of J S) t) t g);
        served = stands_tick J time q' κ' (put2 p.left j k 0) d
            ((leave_undone J L S p O).some d (κ'.segment d) g (omega arith) (alive_seg J κ' d z)) s';
      }

  leave_closes : e ≤ t → J.jobs ≤ (leave_out J S p).state.job
      → Closes J time (switch_of J (leave_out J S p) ∷ []) (suc p.start) (serving q j)
  unfolding out_at switch_of dispatch mark last_switch
  leave_closes h g =
      let (q', f, s') = off h in
      let κ' : Control = leave κ j in
      let d : after J κ' t ≡ J.jobs = omega (arith, (disp _ _ _ (released J L κ') t).inside) in
      let c : max t (J.release J.jobs) ≡ t = omega (arith, L.none_released) in
      rw (d, c, s'.nobody) (leads_closes J time f (wait_closes J L time q' κ' (put2 p.left j k 0) s' (leaving (leave_kind_of J S) t) t g))

  -- ---- either way

  pub step_reaches : (step J S p).state.job < J.jobs → Reaches J time S p q (step J S p)
  step_reaches = step_cases J S p (λ o. o.state.job < J.jobs → Reaches J time S p q o) (λ h g. cut_reaches h) leave_reaches

  -- where all are finished, that switch is the last
  pub step_closes : J.jobs ≤ (step J S p).state.job → Closes J time (switch_of J (step J S p) ∷ []) (suc p.start) (serving q S.job)
  step_closes = step_cases J S p (λ o. J.jobs ≤ o.state.job → Closes J time (switch_of J o ∷ []) (suc p.start) (serving q j))
      (λ h g. absurd (cut_goes h g)) leave_closes
