-- Dispatch over a table of releases `r` and weights `v` (0: finished), for jobs below `n`; `n` itself stands for no job.
use Rattle.std.specs.Prelude.{◌≡◌}
use Rattle.std.proofs.Math.Path.{refl, ap}
use Rattle.std.proofs.Common.{sym, ◌∙◌, arith}
use Prim.Native.Nat.{ℕ, zero, suc, ◌≤◌, ◌<◌, min, max}
use Rattle.kernel.specs.Laws.Tests.{split, iflt, if-lt, if-ge, below}

-- the first index below k at which w is largest, or n where w is 0 at all of them (w n is 0)
unfoldable pub heaviest : (ℕ → ℕ) → ℕ → ℕ → ℕ
heaviest w n zero = n
heaviest w n (suc k) = let d = heaviest w n k in iflt (w d) (w k) k d

pub record Heaviest (w : ℕ → ℕ) (n k d : ℕ) : Type 0 where
  pub inside : d ≤ n
  pub low : d < n → d < k
  pub real : d < n → 0 < w d
  pub top : (i : ℕ) → i < k → w i ≤ w d
  pub tie : (i : ℕ) → i < k → i < d → 0 < w i → w i < w d

heaviest_step : (w : ℕ → ℕ) (n k d : ℕ) → w n ≡ 0 → k < n → Heaviest w n k d → Heaviest w n (suc k) (iflt (w d) (w k) k d)
heaviest_step w n k d wn h b =
    split (w d) (w k)
    (λ (lt : w d < w k). rw (if-lt (w d) (w k) k d lt) (record {
      inside = omega arith;
      low = λ _. omega arith;
      real = λ _. omega arith;
      top = below (λ i. w i ≤ w k) k (λ i hk. omega (arith, b.top i hk)) (omega arith);
      tie = λ i hi hk z. omega (arith, b.top i hk);
    }))
    (λ (ge : w k ≤ w d). rw (if-ge (w d) (w k) k d ge) (record {
      inside = b.inside;
      low = λ q. omega (arith, b.low q);
      real = b.real;
      top = below (λ i. w i ≤ w d) k b.top ge;
      tie = below (λ i. i < d → 0 < w i → w i < w d) k b.tie (λ hk z. split d n
          (λ (q : d < n). omega (arith, b.low q))
          (λ (q : n ≤ d). let e : d ≡ n = omega (arith, b.inside) in omega (arith, ap w e)));
    }))

pub heaviest_law : (w : ℕ → ℕ) (n k : ℕ) → w n ≡ 0 → k ≤ n → Heaviest w n k (heaviest w n k)
unfolding heaviest
heaviest_law w n zero wn h = record { inside = omega arith; low = λ q. omega arith; real = λ q. omega arith; top = λ i q. omega arith; tie = λ i q. omega arith }
heaviest_law w n (suc k) wn h = heaviest_step w n k (heaviest w n k) wn h (heaviest_law w n k wn (omega arith))

-- ---- the least release after a of a job below k whose weight is above w, or e where none is before e

unfoldable pub first_above_of : (r v : ℕ → ℕ) (a w e : ℕ) → ℕ → ℕ
first_above_of r v a w e zero = e
first_above_of r v a w e (suc k) = let x = first_above_of r v a w e k in iflt w (v k) (iflt a (r k) (min (r k) x) x) x

pub record Above (r v : ℕ → ℕ) (a w e k x : ℕ) : Type 0 where
  pub le : x ≤ e
  pub least : (i : ℕ) → i < k → w < v i → a < r i → x ≤ r i
  pub hit : x < e → (i : ℕ) × (i < k) × (w < v i) × (a < r i) × (x ≡ r i)

first_above_keep : (r v : ℕ → ℕ) (a w e k x : ℕ) → (w < v k → a < r k → x ≤ r k) → Above r v a w e k x → Above r v a w e (suc k) x
first_above_keep r v a w e k x h s = record {
  le = s.le;
  least = below (λ i. w < v i → a < r i → x ≤ r i) k s.least h;
  hit = λ q. let (i, a1, a2, a3, a4) = s.hit q in (i, omega arith, a2, a3, a4);
}

first_above_take : (r v : ℕ → ℕ) (a w e k x : ℕ) → w < v k → a < r k → Above r v a w e k x → Above r v a w e (suc k) (min (r k) x)
first_above_take r v a w e k x h1 h2 s = split x (r k)
    (λ (lt : x < r k). let e : min (r k) x ≡ x = omega arith in rw e (first_above_keep r v a w _ k x (λ g1 g2. omega arith) s))
    (λ (ge : r k ≤ x). let e' : min (r k) x ≡ r k = omega arith in rw e' (record {
      le = omega (arith, s.le);
      least = below (λ i. w < v i → a < r i → r k ≤ r i) k (λ i p q t. omega (arith, s.least i p q t)) (λ h1 h2. omega arith);
      hit = λ q. (k, omega arith, h1, h2, refl);
    }))

first_above_of_step : (r v : ℕ → ℕ) (a w e k x : ℕ) → Above r v a w e k x
    → Above r v a w e (suc k) (iflt w (v k) (iflt a (r k) (min (r k) x) x) x)
first_above_of_step r v a w e k x s =
    split w (v k)
    (λ (p : w < v k). rw (if-lt w (v k) (iflt a (r k) (min (r k) x) x) x p) (split a (r k)
    (λ (q : a < r k). rw (if-lt a (r k) (min (r k) x) x q) (first_above_take r v a w e k x p q s))
    (λ (q : r k ≤ a). rw (if-ge a (r k) (min (r k) x) x q) (first_above_keep r v a w e k x (λ h1 h2. omega arith) s))))
    (λ (p : v k ≤ w). rw (if-ge w (v k) (iflt a (r k) (min (r k) x) x) x p) (first_above_keep r v a w e k x (λ h1 h2. omega arith) s))

first_above_of_law : (r v : ℕ → ℕ) (a w e k : ℕ) → Above r v a w e k (first_above_of r v a w e k)
unfolding first_above_of
first_above_of_law r v a w e zero = record { le = omega arith; least = λ i q. omega arith; hit = λ q. absurd (omega arith) }
first_above_of_law r v a w e (suc k) = first_above_of_step r v a w e k (first_above_of r v a w e k) (first_above_of_law r v a w e k)

-- ---- dispatch

module _ (n : ℕ) (r v : ℕ → ℕ) where
  unfoldable pub rank : ℕ → ℕ → ℕ
  rank t i = iflt t (r i) 0 (v i)

  -- the job dispatched at tick t, n if none is ready
  unfoldable pub pick : ℕ → ℕ
  pick t = heaviest (rank t) n n

  -- the first unfinished job, n if there is none
  unfoldable pub first_open : ℕ
  first_open = heaviest (λ i. min 1 (v i)) n n

  -- what is dispatched next after a leaving at t
  unfoldable pub next : ℕ → ℕ
  next t = pick (max t (r first_open))

  -- the first tick after a, before e, at which an unfinished job of weight above w is released; else e
  unfoldable pub first_above : (a w e : ℕ) → ℕ
  first_above a w e = first_above_of r v a w e n

  -- d is dispatched next after a leaving at t, at the tick max t (r d): d is n if all are finished
  pub record Disp (t d : ℕ) : Type 0 where
    pub inside : d ≤ n
    pub idle : t < r d → (i : ℕ) → i < n → 0 < v i → r d ≤ r i
    pub top : (i : ℕ) → i < n → r i ≤ max t (r d) → v i ≤ v d
    pub tie : (i : ℕ) → i < d → r i ≤ max t (r d) → 0 < v i → v i < v d
    pub some : (i : ℕ) → i < n → 0 < v i → d < n
    pub real : d < n → 0 < v d

-- what a table of jobs owes: releases in order, and nothing at n
pub record Released (n : ℕ) (r v : ℕ → ℕ) : Type 0 where
  pub sorted : (i j : ℕ) → i ≤ j → j < n → r i ≤ r j
  pub r_n : r n ≡ 0
  pub v_n : v n ≡ 0

module _ (n : ℕ) (r v : ℕ → ℕ) where
  pub rank_le : (t i : ℕ) → rank n r v t i ≤ v i
  unfolding rank
  rank_le t i = split t (r i) (λ h. rw if-lt (omega arith)) (λ h. rw if-ge (omega arith))

  pub rank_eq : (t i : ℕ) → r i ≤ t → rank n r v t i ≡ v i
  unfolding rank
  rank_eq t i h = if-ge t (r i) 0 (v i) h

  rank_out : (t i : ℕ) → 0 < rank n r v t i → r i ≤ t
  unfolding rank
  rank_out t i h = split t (r i) (λ (q : t < r i). omega (arith, rw if-lt at h)) (λ q. q)

module _ (n : ℕ) (r v : ℕ → ℕ) (J : Released n r v) where
  pub first_above_law : (a w e : ℕ) → Above r v a w e n (first_above n r v a w e)
  unfolding first_above
  first_above_law a w e = first_above_of_law r v a w e n

  pick_law : (t : ℕ) → Heaviest (rank n r v t) n n (pick n r v t)
  unfolding pick
  pick_law t = heaviest_law (rank n r v t) n n (omega (arith, rank_le n r v t n, J.v_n)) (omega arith)

  pub first_law : Heaviest (λ i. min 1 (v i)) n n (first_open n r v)
  unfolding first_open
  first_law = heaviest_law (λ i. min 1 (v i)) n n (omega (arith, J.v_n)) (omega arith)

  -- the first unfinished job is released no later than any other
  first_least : (i : ℕ) → i < n → 0 < v i → r (first_open n r v) ≤ r i
  first_least i h z = let f : ℕ = first_open n r v in
      split i f
      (λ (q : i < f). omega (arith, first_law.tie i h q (omega arith)))
      (λ (q : f ≤ i). J.sorted f i q h)

  pub first_real : (i : ℕ) → i < n → 0 < v i → (first_open n r v < n) × (0 < v (first_open n r v))
  first_real i h z = let f : ℕ = first_open n r v in
      split f n
      (λ (q : f < n). (q, omega (arith, first_law.real q)))
      (λ (q : n ≤ f). let e : f ≡ n = omega (arith, first_law.inside) in
      omega (arith, first_law.top i h, ap v e, J.v_n))

  pub pick_out : (t : ℕ) → r (pick n r v t) ≤ t
  pick_out t = let d : ℕ = pick n r v t in
      split d n
      (λ (q : d < n). rank_out n r v t d ((pick_law t).real q))
      (λ (q : n ≤ d). let e : d ≡ n = omega (arith, (pick_law t).inside) in omega (arith, ap r e, J.r_n))

  pub pick_top : (t i : ℕ) → i < n → r i ≤ t → v i ≤ v (pick n r v t)
  pick_top t i h o = omega (arith, (pick_law t).top i h, rank_eq n r v t i o, rank_le n r v t (pick n r v t))

  pub pick_tie : (t i : ℕ) → i < pick n r v t → r i ≤ t → 0 < v i → v i < v (pick n r v t)
  pick_tie t i h o z = let e : rank n r v t i ≡ v i = rank_eq n r v t i o in
      omega (arith, (pick_law t).tie i (omega (arith, (pick_law t).inside)) h (omega arith), rank_le n r v t (pick n r v t))

  pub pick_some : (t i : ℕ) → i < n → r i ≤ t → 0 < v i → pick n r v t < n
  pick_some t i h o z = let d : ℕ = pick n r v t in
      split d n (λ (q : d < n). q)
      (λ (q : n ≤ d). let e : d ≡ n = omega (arith, (pick_law t).inside) in omega (arith, pick_top t i h o, ap v e, J.v_n))

  pub pick_real : (t : ℕ) → pick n r v t < n → 0 < v (pick n r v t)
  pick_real t h = omega (arith, (pick_law t).real h, rank_le n r v t (pick n r v t))

  -- where the processor idles, what is dispatched is released at that very tick
  pick_late : (t s : ℕ) → s ≡ max t (r (first_open n r v)) → s ≡ max t (r (pick n r v s))
  pick_late t s e =
      let f : ℕ = first_open n r v in
      let d : ℕ = pick n r v s in
      let o : r d ≤ s = pick_out s in
      split f n
      (λ (h : f < n).
      let z : 0 < v f = omega (arith, first_law.real h) in
      let hd : d < n = pick_some s f h (omega arith) z in
      omega (arith, first_least d hd (pick_real s hd)))
      (λ (h : n ≤ f). let g : f ≡ n = omega (arith, first_law.inside) in omega (arith, ap r g, J.r_n))

  disp_at : (t s : ℕ) → s ≡ max t (r (first_open n r v)) → Disp n r v t (pick n r v s)
  disp_at t s e =
      let f : ℕ = first_open n r v in
      let d : ℕ = pick n r v s in
      let l : s ≡ max t (r d) = pick_late t s e in
      record {
        inside = (pick_law s).inside;
        idle = λ q i h z. omega (arith, first_least i h z);
        top = λ i h o. pick_top s i h (omega arith);
        tie = λ i h o z. pick_tie s i h (omega arith) z;
        some = λ i h z. let (f1, f2) = first_real i h z in pick_some s f f1 (omega arith) f2;
        real = λ h. pick_real s h;
      }

  pub disp : (t : ℕ) → Disp n r v t (next n r v t)
  unfolding next
  disp t = disp_at t _ refl

  -- a dispatch is determined
  disp_start : (t d e : ℕ) → Disp n r v t d → Disp n r v t e → e < n → r d ≤ max t (r e)
  disp_start t d e D E h = split t (r d) (λ (q : t < r d). omega (arith, D.idle q e h (E.real h))) (λ (q : r d ≤ t). omega arith)

  disp_le : (t d e : ℕ) → Disp n r v t d → Disp n r v t e → e ≤ d
  disp_le t d e D E = split d e
      (λ (h : d < e). let hd : d < n = omega (arith, E.inside) in
      let he : e < n = E.some d hd (D.real hd) in
      omega (arith, E.tie d h (disp_start t d e D E he) (D.real hd), D.top e he (disp_start t e d E D hd)))
      (λ h. h)

  pub disp_unique : (t d : ℕ) → Disp n r v t d → next n r v t ≡ d
  disp_unique t d D = omega (arith, disp_le t d (next n r v t) D (disp t), disp_le t (next n r v t) d (disp t) D)

  -- ---- a group: the ticks from t on, before the next release above what is dispatched there, dispatch the same

  pub group : (t d e u : ℕ) → Disp n r v t d → t ≤ u → u < first_above n r v t (v d) e → Disp n r v u d
  group t d e u D h g =
      let x : ℕ = first_above n r v t (v d) e in
      let S : Above r v t (v d) e n x = first_above_law t (v d) e in
      record {
        inside = D.inside;
        idle = λ q i hi z. D.idle (omega arith) i hi z;
        top = λ i hi o. split (max t (r d)) (r i)
            (λ (q : max t (r d) < r i). split (v d) (v i)
            (λ (p : v d < v i). omega (arith, S.least i hi p (omega arith)))
            (λ p. p))
            (λ (q : r i ≤ max t (r d)). D.top i hi q);
        tie = λ i hi o z.
            let hn : i < n = omega (arith, D.inside) in
            D.tie i hi (omega (arith, J.sorted i d (omega arith) (D.some i hn z))) z;
        some = D.some;
        real = D.real;
      }

  -- and at that release what is dispatched has a larger weight
  pub group_end : (t d e f : ℕ) → first_above n r v t (v d) e < e → Disp n r v (first_above n r v t (v d) e) f → v d < v f
  group_end t d e f h E =
      let (i, a1, a2, a3, a4) = (first_above_law t (v d) e).hit h in
      omega (arith, E.top i a1 (omega arith))

  -- ---- ticks between a leaving and the next dispatch

  -- the tick of the dispatch
  next_at : (t : ℕ) → max t (r (first_open n r v)) ≡ max t (r (next n r v t))
  unfolding next
  next_at t = pick_late t _ refl

  pub next_then : (t : ℕ) → pick n r v (max t (r (next n r v t))) ≡ next n r v t
  next_then t = ap (pick n r v) (sym (next_at t)) ∙ unfold next in refl

  pub next_now : (t i : ℕ) → i < n → 0 < v i → r i ≤ t → pick n r v t ≡ next n r v t
  unfolding next
  next_now t i h z o = let e : t ≡ max t (r (first_open n r v)) = omega (arith, first_least i h z) in ap (pick n r v) e

  -- until then none is ready
  pub next_idle : (t u : ℕ) → t ≤ u → u < r (next n r v t) → n ≤ pick n r v u
  next_idle t u h q = let d : ℕ = pick n r v u in split d n
      (λ (w : d < n). omega (arith, (disp t).idle (omega arith) d w (pick_real u w), pick_out u))
      (λ w. w)
