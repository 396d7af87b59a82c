-- When work is done that comes in table order, one job after the other.
use Rattle.std.specs.Prelude.{◌≡◌, ◌≢◌}
use Rattle.std.proofs.Math.Path.{refl, ap, ap₂}
use Prim.Native.Nat.{ℕ, zero, suc, ◌+◌, ◌≤◌, ◌<◌, max}
use Rattle.std.proofs.Common.{add-one}
use native.Mathlib.Omega.{arith}
use Rattle.kernel.specs.Laws.Tests.{split, iflt, if-lt, if-ge}

-- those before it are done at c: when is a job done that has work w and is released at r
unfoldable pub done_at : (c r w : ℕ) → ℕ
done_at c r w = iflt 0 w (max c r + w) c

pub done_some : (c r w : ℕ) → 0 < w → done_at c r w ≡ max c r + w
unfolding done_at
done_some c r w h = if-lt _ _ _ _ h

pub done_none : (c r w : ℕ) → w ≡ 0 → done_at c r w ≡ c
unfolding done_at
done_none c r w h = if-ge _ _ _ _ (omega arith)

done_out : (c r w : ℕ) → r ≤ c → done_at c r w ≡ c + w
done_out c r w h = split 0 w (λ (q : 0 < w). omega (arith, done_some c r w q)) (λ (q : w ≤ 0). omega (arith, done_none c r w (omega arith)))

pub done_most : (c r w : ℕ) → done_at c r w ≤ max c r + w
done_most c r w = split 0 w (λ (q : 0 < w). omega (arith, done_some c r w q)) (λ (q : w ≤ 0). omega (arith, done_none c r w (omega arith)))

done_ge : (c r w : ℕ) → c ≤ done_at c r w
done_ge c r w = split 0 w (λ (q : 0 < w). omega (arith, done_some c r w q)) (λ (q : w ≤ 0). omega (arith, done_none c r w (omega arith)))

done_mono : (c d r v w : ℕ) → c ≤ d → v ≤ w → done_at c r v ≤ done_at d r w
done_mono c d r v w h k = split 0 v
    (λ (q : 0 < v). omega (arith, done_some c r v q, done_some d r w (omega arith)))
    (λ (q : v ≤ 0). omega (arith, done_none c r v (omega arith), done_ge d r w))

-- the tick at which the jobs below k are done, from tick c on
unfoldable pub clock : (release work : ℕ → ℕ) (c k : ℕ) → ℕ
clock r w c zero = c
clock r w c (suc k) = done_at (clock r w c k) (r k) (w k)

-- a loop that has passed no job yet, passes one more, and has passed all
pub clock_start : (r w : ℕ → ℕ) (c : ℕ) → c ≡ clock r w c 0
unfolding clock
clock_start r w c = refl

pub clock_more : (r w : ℕ → ℕ) (c k e d : ℕ) → e ≡ clock r w c k → d ≡ done_at e (r k) (w k) → d ≡ clock r w c (k + 1)
unfolding clock
clock_more r w c k e d p q = rw (add-one k, ← p) q

pub clock_all : (r w : ℕ → ℕ) (c n k e : ℕ) → k ≤ n → n ≤ k → e ≡ clock r w c k → e ≡ clock r w c n
clock_all r w c n k e h q p = let z : n ≡ k = omega arith in rw z p

pub clock_ge : (r w : ℕ → ℕ) (c k : ℕ) → c ≤ clock r w c k
unfolding clock
clock_ge r w c zero = omega arith
clock_ge r w c (suc k) = omega (arith, clock_ge r w c k, done_ge (clock r w c k) (r k) (w k))

-- it rises with the work
pub clock_mono : (r v w : ℕ → ℕ) (c k : ℕ) → ((i : ℕ) → i < k → v i ≤ w i) → clock r v c k ≤ clock r w c k
unfolding clock
clock_mono r v w c zero h = omega arith
clock_mono r v w c (suc k) h = done_mono _ _ (r k) (v k) (w k) (clock_mono r v w c k (λ i q. h i (omega arith))) (h k (omega arith))

pub clock_none : (r w : ℕ → ℕ) (c k : ℕ) → ((i : ℕ) → i < k → w i ≡ 0) → clock r w c k ≡ c
unfolding clock
clock_none r w c zero h = refl
clock_none r w c (suc k) h = omega (arith, done_none (clock r w c k) (r k) (w k) (h k (omega arith)), clock_none r w c k (λ i q. h i (omega arith)))

clock_late : (r w : ℕ → ℕ) (c k d : ℕ) → d < k → 0 < w d → r d < clock r w c k
unfolding clock
clock_late r w c zero d h q = absurd (omega arith)
clock_late r w c (suc k) d h q = split d k
    (λ (l : d < k). omega (arith, clock_late r w c k d l q, done_ge (clock r w c k) (r k) (w k)))
    (λ (l : k ≤ d). let e : d ≡ k = omega arith in omega (arith, ap r e, ap w e, done_some (clock r w c k) (r k) (w k) (omega (arith, ap w e))))

-- ---- one tick leaves it unchanged

-- where no job that has work is released: the next tick does as well
module _ (r w : ℕ → ℕ) (c : ℕ) where
  clock_wait : (k : ℕ) → ((i : ℕ) → i < k → 0 < w i → c < r i) → clock r w (suc c) k ≡ max (suc c) (clock r w c k)
  unfolding clock
  clock_wait zero h = omega arith
  clock_wait (suc k) h =
      let x : ℕ = clock r w c k in
      let e : clock r w (suc c) k ≡ max (suc c) x = clock_wait k (λ i q. h i (omega arith)) in
      rw e (split 0 (w k)
      (λ (q : 0 < w k). omega (arith, h k (omega arith) q, done_some x (r k) (w k) q, done_some (max (suc c) x) (r k) (w k) q))
      (λ (q : w k ≤ 0). omega (arith, done_none x (r k) (w k) (omega arith), done_none (max (suc c) x) (r k) (w k) (omega arith))))

  pub clock_idle : (k d : ℕ) → ((i : ℕ) → i < k → 0 < w i → c < r i) → d < k → 0 < w d → clock r w (suc c) k ≡ clock r w c k
  clock_idle k d h q z = omega (arith, clock_wait k h, clock_late r w c k d q z, h d q z)

-- where job j, released like all before it, has the tick
module _ (r v w : ℕ → ℕ) (j c : ℕ) (out : (i : ℕ) → i ≤ j → r i ≤ c) (ran : suc (w j) ≡ v j) (rest : (i : ℕ) → i ≢ j → w i ≡ v i) where
  clock_before : (k : ℕ) → k ≤ j → clock r w (suc c) k ≡ suc (clock r v c k)
  unfolding clock
  clock_before zero h = refl
  clock_before (suc k) h = omega (
    arith,
    clock_before k (omega arith),
    rest k (omega arith),
    done_out (clock r v c k) (r k) (v k) (omega (arith, out k (omega arith), clock_ge r v c k)),
    done_out (clock r w (suc c) k) (r k) (w k) (omega (arith, out k (omega arith), clock_ge r w (suc c) k)),
  )

  pub clock_ran : (k : ℕ) → j < k → clock r w (suc c) k ≡ clock r v c k
  unfolding clock
  clock_ran zero h = absurd (omega arith)
  clock_ran (suc k) h = split j k
      (λ (q : j < k). ap₂ (λ (x y : ℕ). done_at x (r k) y) (clock_ran k q) (rest k (omega arith)))
      (λ (q : k ≤ j). let e : k ≡ j = omega arith in omega (
        arith,
        ap v e,
        ap w e,
        clock_before k q,
        done_out (clock r v c k) (r k) (v k) (omega (arith, out k q, clock_ge r v c k)),
        done_out (clock r w (suc c) k) (r k) (w k) (omega (arith, out k q, clock_ge r w (suc c) k)),
      ))
