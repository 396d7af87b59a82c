-- What holds right after every dispatch, and that it is kept from one switch to the next.
use native.Mathlib.Bridge.{le_prop}
use mathlib.Core.Logic.{∥∥₁_elim}
use Rattle.std.proofs.Math.Path.{◌≡◌, refl, ap}
use Rattle.std.proofs.Common.{sym, ◌∙◌, arith}
use Rattle.std.specs.Prelude.{◌≢◌, Bool, true, false, cond}
use Prim.Native.Nat.{ℕ, suc, ◌+◌, ◌-◌, ◌≤◌, ◌<◌}
use Rattle.std.proofs.Math.Decide.{ℕ_discrete}
use Rattle.kernel.specs.Rules.{JobSet, put, Kind, FIRST, CUT, Within}
use Rattle.kernel.specs.Laws.Tests.{split, if-lt, if-ge}
use Rattle.kernel.specs.Laws.Places.{put_same, put_other, put_cases, put2, put2_cases}
use Rattle.kernel.specs.Laws.Pick.{Disp, disp, group, group_end, disp_unique, next_now, first_above_law, Above}
use Rattle.kernel.specs.Laws.Control.{Lawful, positive_times, Control, leave, mark, weight, picked, after, released}
use Rattle.kernel.specs.Laws.Fall.{alive_seg, seg_alive, potential, fall_leave, fall_cut, unbegun}
use Rattle.kernel.specs.Laws.Step.{State, dispatch, Point, Out, present, leave_kind_of, cut_tick, out_at, step, first_state, first_out}

-- ---- weights

cond_le : (b : Bool) (x y : ℕ) → y ≤ x → cond b x y ≤ x
cond_le true x y h = omega arith
cond_le false x y h = h

-- a job that is dispatched gains weight
pub mark_same : (J : JobSet) → Lawful J → (κ : Control) (d : ℕ) → d < J.jobs → weight J κ d ≤ weight J (mark κ d) d
unfolding weight mark
mark_same J L κ d h = rw (put_same κ.begun d true) (split (κ.segment d) (J.segments d)
    (λ q. simp if-lt (cond_le (κ.begun d) _ _ (omega (arith, L.raised d (κ.segment d) h q))))
    (λ q. simp if-ge (omega arith)))

-- and the others keep theirs
pub mark_other : (J : JobSet) (κ : Control) (d i : ℕ) → i ≢ d → weight J (mark κ d) i ≡ weight J κ i
unfolding weight mark
mark_other J κ d i h = rw (put_other κ.begun d true i h)

mark_was : (κ : Control) (d i : ℕ) → i ≢ d → (mark κ d).begun i ≡ true → κ.begun i ≡ true
unfolding mark
mark_was κ d i h b = sym (put_other κ.begun d true i h) ∙ b

-- ---- what holds

module _ (J : JobSet) where
  -- of a segment that is unfinished at least one tick is left, of one that was left none
  pub record Undone (κ : Control) (left : ℕ → ℕ → ℕ) : Type 0 where
    pub some : (i k : ℕ) → i < J.jobs → κ.segment i ≤ k → k < J.segments i → 1 ≤ left i k
    pub past : (i k : ℕ) → i < J.jobs → k < κ.segment i → left i k ≡ 0

  -- the running job is released, unfinished and begun, and ahead of all others that are released
  pub record SoundAt (S : State) (p : Point) : Type 0 where
    pub inside : S.job < J.jobs
    pub alive : 0 < weight J S.control S.job
    pub on : S.control.begun S.job ≡ true
    pub out : J.release S.job ≤ p.start
    pub top : (i : ℕ) → i < J.jobs → J.release i ≤ p.start → weight J S.control i ≤ weight J S.control S.job
    pub tie : (i : ℕ) → i < S.job → 0 < weight J S.control i → weight J S.control i < weight J S.control S.job
    pub was : (i : ℕ) → S.control.begun i ≡ true → J.release i ≤ p.start
    pub undone : Undone S.control p.left

  undone_out : (kind : Kind) (κ : Control) (left : ℕ → ℕ → ℕ) (t : ℕ) → Undone κ left
      → Undone (out_at J kind κ left t).state.control (out_at J kind κ left t).point.left
  unfolding out_at dispatch mark
  undone_out kind κ left t U = record { some = U.some; past = U.past }

  -- it holds after a leaving at t
  sound_out : Lawful J → (kind : Kind) (κ : Control) (left : ℕ → ℕ → ℕ) (t : ℕ) → ((i : ℕ) → κ.begun i ≡ true → J.release i ≤ t) → Undone κ left
      → (out_at J kind κ left t).state.job < J.jobs → SoundAt (out_at J kind κ left t).state (out_at J kind κ left t).point
  unfolding out_at dispatch
  sound_out L kind κ left t was U h =
      let d : ℕ = after J κ t in
      let D = disp _ _ _ (released J L κ) t in
      let up : weight J κ d ≤ weight J (mark κ d) d = mark_same J L κ d h in
      record {
        inside = h;
        alive = omega (arith, D.real h);
        on = unfold mark in put_same κ.begun d true;
        out = omega arith;
        top = λ i q o. elim (ℕ_discrete i d) [
          | yes e ↦ rw e (omega arith)
          | no e ↦ omega (arith, mark_other J κ d i e, D.top i q o)
        ];
        tie = λ i q z. let e : weight J (mark κ d) i ≡ weight J κ i = mark_other J κ d i (omega arith) in
            omega (arith, D.tie i q (omega (arith, L.sorted i d (omega arith) h)) (omega arith));
        was = λ i b. elim (ℕ_discrete i d) [
          | yes e ↦ omega (arith, ap J.release e)
          | no e ↦ omega (arith, was i (mark_was κ d i e b))
        ];
        undone = undone_out kind κ left t U;
      }

-- ---- one step: a cut, or the end of the segment

-- the tick at which the running segment has had its time, if it is not cut
abbrev pub done_tick : State → Point → ℕ
done_tick S p = p.start + p.left S.job (present S)

-- the tick at which it is left
abbrev pub leave_tick : JobSet → State → Point → ℕ
leave_tick J S p = cut_tick J S p.start (done_tick S p)

abbrev pub cut_out : JobSet → State → Point → Out
cut_out J S p = out_at J CUT S.control (put2 p.left S.job (present S) (done_tick S p - leave_tick J S p)) (leave_tick J S p)

abbrev pub leave_out : JobSet → State → Point → Out
leave_out J S p = out_at J (leave_kind_of J S) (leave S.control S.job) (put2 p.left S.job (present S) 0) (leave_tick J S p)

pub step_cases : (J : JobSet) (S : State) (p : Point) (P : Out → Type 0)
    → (leave_tick J S p < done_tick S p → P (cut_out J S p)) → (done_tick S p ≤ leave_tick J S p → P (leave_out J S p)) → P (step J S p)
unfolding step
step_cases J S p P f g = split (leave_tick J S p) (done_tick S p) (λ h. rw if-lt (f h)) (λ h. rw if-ge (g h))

pub bool_false : (b : Bool) → (b ≡ true → ⊥) → b ≡ false
bool_false true h = absurd (h refl)
bool_false false h = refl

module _ (J : JobSet) (L : Lawful J) (S : State) (p : Point) (O : SoundAt J S p) where
  abbrev κ : Control
  κ = S.control

  abbrev j : ℕ
  j = S.job

  abbrev k : ℕ
  k = present S

  abbrev t : ℕ
  t = leave_tick J S p

  abbrev e : ℕ
  e = done_tick S p

  -- it is left at the first release above it, or else when it has had its time
  pub leave_law : Above J.release (weight J κ) p.start (weight J κ j) e J.jobs t
  leave_law = first_above_law _ _ _ (released J L κ) p.start (weight J κ j) e

  pub some_left : 1 ≤ p.left j k
  some_left = O.undone.some j k O.inside (omega arith) (alive_seg J κ j O.alive)

  -- it has at least one tick
  pub leave_after : p.start < t
  leave_after = split t e
      (λ (q : t < e). let (i, a1, a2, a3, a4) = leave_law.hit q in omega arith)
      (λ (q : e ≤ t). omega (arith, some_left))

  begins : Disp J.jobs J.release (weight J κ) p.start j
  begins = record {
    inside = omega (arith, O.inside);
    idle = λ q. absurd (omega (arith, O.out));
    top = λ i h o. O.top i h (omega (arith, O.out));
    tie = λ i h o z. O.tie i h z;
    some = λ i h z. O.inside;
    real = λ h. O.alive;
  }

  -- it keeps the processor until it is left
  pub keeps : (u : ℕ) → p.start ≤ u → u < t → picked J κ u ≡ j
  keeps u h q =
      next_now _ _ _ (released J L κ) u j O.inside O.alive (omega (arith, O.out))
      ∙ disp_unique _ _ _ (released J L κ) u j (group _ _ _ (released J L κ) p.start j e u begins h q)

  -- the job that cuts it is heavier
  pub cut_heavier : t < e → (weight J κ j < weight J κ (after J κ t)) × (after J κ t < J.jobs)
  cut_heavier h =
      let D = disp _ _ _ (released J L κ) t in
      (group_end _ _ _ (released J L κ) p.start j e _ h D, D.some j O.inside O.alive)

  -- so it has not begun
  cut_new : t < e → κ.begun (after J κ t) ≡ false
  cut_new h = let (a, b) = cut_heavier h in bool_false _ (λ q. omega (arith, O.top (after J κ t) b (O.was (after J κ t) q)))

  -- ---- what is left then

  pub cut_undone : t < e → Undone J κ (put2 p.left j k (e - t))
  cut_undone h = record {
    some = λ i x q a b. put2_cases (λ v. 1 ≤ v) p.left j k (e - t) i x (λ y z. omega arith) (λ d. O.undone.some i x q a b);
    past = λ i x q a. put2_cases (λ v. v ≡ 0) p.left j k (e - t) i x
        (λ y z. absurd (omega (arith, ap κ.segment y))) (λ d. O.undone.past i x q a);
  }

  pub leave_undone : Undone J (leave κ j) (put2 p.left j k 0)
  unfolding leave
  leave_undone =
      let up : (i : ℕ) → κ.segment i ≤ put κ.segment j (suc k) i = put_cases (λ i s. κ.segment i ≤ s) κ.segment j (suc k) (omega arith) (λ i n. omega arith) in
      record {
        some = λ i x q a b. put2_cases (λ v. 1 ≤ v) p.left j k 0 i x
            (λ y z. absurd (omega (arith, ap (put κ.segment j (suc k)) y, put_same κ.segment j (suc k))))
            (λ d. O.undone.some i x q (omega (arith, up i)) b);
        past = λ i x. put_cases (λ i s. i < J.jobs → x < s → put2 p.left j k 0 i x ≡ 0) κ.segment j (suc k)
            (λ q (l : x < suc k). put2_cases (λ v. v ≡ 0) p.left j k 0 j x (λ y z. refl) (λ d. let n : x ≢ k = d refl in O.undone.past j x q (omega arith)))
            (λ i n q l. put2_cases (λ v. v ≡ 0) p.left j k 0 i x (λ y z. refl) (λ d. O.undone.past i x q l)) i;
      }

  pub undone_step : Undone J (step J S p).state.control (step J S p).point.left
  undone_step = step_cases J S p (λ o. Undone J o.state.control o.point.left)
      (λ h. undone_out J CUT κ (put2 p.left j k (e - t)) t (cut_undone h))
      (λ h. undone_out J (leave_kind_of J S) (leave κ j) (put2 p.left j k 0) t leave_undone)

  -- ---- the next dispatch

  was_by : (i : ℕ) → κ.begun i ≡ true → J.release i ≤ t
  was_by i b = omega (arith, O.was i b, leave_after)

  -- the same holds right after it
  pub sound_step : (step J S p).state.job < J.jobs → SoundAt J (step J S p).state (step J S p).point
  sound_step = step_cases J S p (λ o. o.state.job < J.jobs → SoundAt J o.state o.point)
      (λ h. sound_out J L CUT κ (put2 p.left j k (e - t)) t was_by (cut_undone h))
      (λ h. sound_out J L (leave_kind_of J S) (leave κ j) (put2 p.left j k 0) t (unfold leave in was_by) leave_undone)

  -- and fewer switches can follow
  pub fall_step : potential J (step J S p).state.control < potential J S.control
  fall_step = step_cases J S p (λ o. potential J o.state.control < potential J κ)
      (λ h. unfold out_at dispatch in fall_cut J κ (after J κ t) (cut_heavier h).1 (cut_new h))
      (λ h. unfold out_at dispatch in fall_leave J κ j (after J (leave κ j) t) O.inside O.alive)

-- ---- the first dispatch

module _ (J : JobSet) (L : Lawful J) where
  pub first_inside : after J unbegun 0 < J.jobs
  unfolding unbegun
  first_inside = ∥∥₁_elim L.worker le_prop (λ w. (disp _ _ _ (released J L unbegun) 0).some w.job w.inside (seg_alive J unbegun w.job w.some))

  pub sound_first : (time : ℕ → ℕ → ℕ) → Within J time → SoundAt J (first_state J) (first_out J time).point
  unfolding out_at dispatch unbegun
  sound_first time W = sound_out J L FIRST unbegun time 0 (λ i b. absurd (let z : ◌≡◌ {A = ℕ} 0 1 = cc in omega arith))
      (record { some = λ i k q a b. positive_times J L time W i k q b; past = λ i k q a. absurd (omega arith) }) first_inside
