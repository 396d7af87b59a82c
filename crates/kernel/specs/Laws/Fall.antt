-- What falls with each switch: unfinished segments and jobs not begun.
use Rattle.std.specs.Prelude.{◌≡◌, false, cond, ℕ, zero, suc, ◌+◌, ◌-◌, ◌*◌, ◌≤◌, ◌<◌}
use Rattle.std.proofs.Math.Bool.{true}
use Rattle.std.proofs.Common.{arith}
use Rattle.std.proofs.Math.Decide.{ℕ_discrete}
use Rattle.kernel.specs.Rules.{JobSet}
use Rattle.kernel.specs.Jobs.{sum}
use Rattle.kernel.specs.Laws.Sums.{sum_lt}
use Rattle.kernel.specs.Laws.Tests.{split, if-lt, if-ge}
use Rattle.kernel.specs.Laws.Places.{put_same, put_other}
use Rattle.kernel.specs.Laws.Control.{Control, leave, mark, weight, weight_pos}

-- what a job has still to make: its unfinished segments, and its beginning
unfoldable pub due : JobSet → Control → ℕ → ℕ
due J κ i = (J.segments i - κ.segment i) + cond (κ.begun i) 0 1

-- how many switches there can still be
unfoldable pub potential : JobSet → Control → ℕ
potential J κ = sum (due J κ) J.jobs

module _ (J : JobSet) where
  mark_due : (κ : Control) (d i : ℕ) → due J (mark κ d) i ≤ due J κ i
  unfolding due mark
  mark_due κ d i = elim (ℕ_discrete i d) [
    | yes q ↦ rw (q, put_same κ.begun d true) (omega arith)
    | no q ↦ rw (put_other κ.begun d true i q) (omega arith)
  ]

  mark_new : (κ : Control) (d : ℕ) → κ.begun d ≡ false → due J (mark κ d) d < due J κ d
  unfolding due mark
  mark_new κ d h = rw (put_same κ.begun d true, h) (omega arith)

  leave_due : (κ : Control) (j i : ℕ) → due J (leave κ j) i ≤ due J κ i
  unfolding due leave
  leave_due κ j i = elim (ℕ_discrete i j) [
    | yes q ↦ rw (q, put_same κ.segment j (suc (κ.segment j))) (omega arith)
    | no q ↦ rw (put_other κ.segment j (suc (κ.segment j)) i q) (omega arith)
  ]

  leave_less : (κ : Control) (j : ℕ) → κ.segment j < J.segments j → due J (leave κ j) j < due J κ j
  unfolding due leave
  leave_less κ j h = rw (put_same κ.segment j (suc (κ.segment j))) (omega arith)

  pub alive_seg : (κ : Control) (j : ℕ) → 0 < weight J κ j → κ.segment j < J.segments j
  unfolding weight
  alive_seg κ j h = split (κ.segment j) (J.segments j) (λ q. q) (λ (q : J.segments j ≤ κ.segment j). omega (arith, rw if-ge at h))

  pub seg_alive : (κ : Control) (i : ℕ) → κ.segment i < J.segments i → 0 < weight J κ i
  unfolding weight
  seg_alive κ i h = rw (if-lt (κ.segment i) (J.segments i) (cond (κ.begun i) (2 * J.priority i (κ.segment i) + 2) (2 * J.base i + 1)) 0 h)
      (weight_pos (κ.begun i) (J.priority i (κ.segment i)) (J.base i))

  pub fall_leave : (κ : Control) (j d : ℕ) → j < J.jobs → 0 < weight J κ j → potential J (mark (leave κ j) d) < potential J κ
  unfolding potential
  fall_leave κ j d h z = sum_lt _ _ J.jobs j
      (λ i q. omega (arith, mark_due (leave κ j) d i, leave_due κ j i)) h
      (omega (arith, mark_due (leave κ j) d j, leave_less κ j (alive_seg κ j z)))

  pub fall_cut : (κ : Control) (d : ℕ) → d < J.jobs → κ.begun d ≡ false → potential J (mark κ d) < potential J κ
  unfolding potential
  fall_cut κ d h z = sum_lt _ _ J.jobs d (λ i q. mark_due κ d i) h (mark_new κ d z)

unfoldable pub unbegun : Control
unbegun = record { segment = λ i. 0; begun = λ i. false }

sum_due : (J : JobSet) (k : ℕ) → sum (due J unbegun) k ≡ sum J.segments k + k
unfolding sum due unbegun
sum_due J zero = omega arith
sum_due J (suc k) = omega (arith, sum_due J k)

-- at the start: segments plus jobs
pub potential_start : (J : JobSet) → potential J unbegun ≡ sum J.segments J.jobs + J.jobs
unfolding potential
potential_start J = sum_due J J.jobs
