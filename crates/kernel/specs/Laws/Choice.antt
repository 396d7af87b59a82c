-- The rules' choice is the pick by weight; and what a choice is, in the rules' own words.
use Rattle.std.specs.Prelude.{◌≡◌, Bool, true, false, cond, not, ◌&&◌, ◌||◌, ltb, leb, eqb}
use Rattle.std.proofs.Math.Path.{refl, ap}
use Rattle.std.proofs.Common.{sym, ◌∙◌, arith}
use Prim.Native.Nat.{ℕ, zero, suc, ◌+◌, ◌*◌, ◌≤◌, ◌<◌}
use Rattle.std.proofs.Math.Decide.{ℕ_discrete}
use borrow.Author.Tests.{leb-true, leb-false, not-true, lt-ltb, le-ltb, le-leb, lt-leb, eq-eqb, ne_eqb}
use Rattle.kernel.specs.Rules.{JobSet, Progress, begun, finished, ready, beats, best}
use Rattle.kernel.specs.Laws.Tests.{split, iflt, if-lt, if-ge, both_true}
use Rattle.kernel.specs.Laws.Pick.{heaviest, Heaviest, heaviest_law, rank, rank_le, pick}
use Rattle.kernel.specs.Laws.Control.{Lawful, control_of, weight, weight_pos, picked, released}

-- ---- tests

ltb_same : (a b c d : ℕ) → (a < b → c < d) → (b ≤ a → d ≤ c) → ltb a b ≡ ltb c d
ltb_same a b c d f g = split a b (λ h. lt-ltb a b h ∙ sym (lt-ltb c d (f h))) (λ h. le-ltb a b h ∙ sym (le-ltb c d (g h)))

eqb_same : (a b c d : ℕ) → (a ≡ b → c ≡ d) → (c ≡ d → a ≡ b) → eqb a b ≡ eqb c d
eqb_same a b c d f g = elim (ℕ_discrete a b) [
  | yes h ↦ eq-eqb a b h ∙ sym (eq-eqb c d (f h))
  | no h ↦ ne_eqb a b h ∙ sym (ne_eqb c d (λ e. h (g e)))
]

and-false : (b : Bool) → (b && false) ≡ false
and-false true = refl
and-false false = refl

or_false : (b : Bool) → (b || false) ≡ b
or_false true = refl
or_false false = refl

-- ---- the order of the rules is that of the weights, and then of the numbers

-- the weight of an unfinished job: begun or not, with this priority and this base
abbrev heavy : Bool → (priority base : ℕ) → ℕ
heavy b p x = cond b (2 * p + 2) (2 * x + 1)

heavy_order : (p q x y i d : ℕ) (b c : Bool)
    → (ltb (cond c q y) (cond b p x) || (eqb (cond b p x) (cond c q y) && ((b && not c) || (not (c && not b) && ltb i d))))
    ≡ (ltb (heavy c q y) (heavy b p x) || (eqb (heavy b p x) (heavy c q y) && ltb i d))
heavy_order p q x y i d true true = rw (
  ltb_same q p (2 * q + 2) (2 * p + 2) (λ h. omega arith) (λ h. omega arith),
  eqb_same p q (2 * p + 2) (2 * q + 2) (λ h. omega arith) (λ h. omega arith),
)
heavy_order p q x y i d true false = split y p
    (λ (l : y < p). rw (lt-ltb y p l, lt-ltb (2 * y + 1) (2 * p + 2) (omega arith)))
    (λ (l : p ≤ y). rw (le-ltb y p l, ne_eqb (2 * p + 2) (2 * y + 1) (omega arith)) (split p y
    (λ (g : p < y). rw (ne_eqb p y (omega arith), le-ltb (2 * y + 1) (2 * p + 2) (omega arith)))
    (λ (g : y ≤ p). rw (eq-eqb p y (omega arith), lt-ltb (2 * y + 1) (2 * p + 2) (omega arith)))))
heavy_order p q x y i d false true = rw (
  ltb_same q x (2 * q + 2) (2 * x + 1) (λ h. omega arith) (λ h. omega arith),
  and-false (eqb x q),
  ne_eqb (2 * x + 1) (2 * q + 2) (omega arith),
)
heavy_order p q x y i d false false = rw (
  ltb_same y x (2 * y + 1) (2 * x + 1) (λ h. omega arith) (λ h. omega arith),
  eqb_same x y (2 * x + 1) (2 * y + 1) (λ h. omega arith) (λ h. omega arith),
)

-- ---- ready, in numbers

module _ (J : JobSet) (p : Progress) (tick : ℕ) where
  pub ready_released : (i : ℕ) → ready J p tick i ≡ true → J.release i ≤ tick
  ready_released i r = leb-true (J.release i) tick (both_true _ (not (finished J p i)) r).0

  pub ready_open : (i : ℕ) → ready J p tick i ≡ true → p.segment i < J.segments i
  ready_open i r = leb-false (J.segments i) (p.segment i) (not-true (finished J p i) (both_true (leb (J.release i) tick) _ r).1)

  pub ready_of : (i : ℕ) → J.release i ≤ tick → p.segment i < J.segments i → ready J p tick i ≡ true
  ready_of i h q = rw (le-leb (J.release i) tick h, lt-leb (J.segments i) (p.segment i) q)

  -- the weight that counts at this tick
  abbrev w : ℕ → ℕ
  w = rank J.jobs J.release (weight J (control_of p)) tick

  abbrev heavy_of : ℕ → ℕ
  heavy_of i = heavy (begun p i) (J.priority i (p.segment i)) (J.base i)

  rank_ready : (i : ℕ) → w i ≡ cond (ready J p tick i) (heavy_of i) 0
  unfolding rank weight
  rank_ready i = split tick (J.release i)
      (λ h. rw (if-lt tick (J.release i) 0 (iflt (p.segment i) (J.segments i) (heavy_of i) 0) h, lt-leb (J.release i) tick h))
      (λ h. rw (if-ge tick (J.release i) 0 (iflt (p.segment i) (J.segments i) (heavy_of i) 0) h, le-leb (J.release i) tick h) (split (p.segment i) (J.segments i)
      (λ q. rw (if-lt (p.segment i) (J.segments i) (heavy_of i) 0 q, lt-leb (J.segments i) (p.segment i) q))
      (λ q. rw (if-ge (p.segment i) (J.segments i) (heavy_of i) 0 q, le-leb (J.segments i) (p.segment i) q))))

  heavy_pos : (i : ℕ) → 0 < heavy_of i
  heavy_pos i = weight_pos (begun p i) (J.priority i (p.segment i)) (J.base i)

  -- a weight that counts is that of a ready job
  pos_ready : (i : ℕ) → 0 < w i → ready J p tick i ≡ true
  pos_ready i h = go (ready J p tick i) (omega (arith, rank_ready i))
    where
      go : (b : Bool) → 0 < cond b (heavy_of i) 0 → b ≡ true
      go true h = refl
      go false h = absurd (omega arith)

  beats_order : (i d : ℕ) → beats J p i d ≡ (ltb (heavy_of d) (heavy_of i) || (eqb (heavy_of i) (heavy_of d) && ltb i d))
  beats_order i d = heavy_order (J.priority i (p.segment i)) (J.priority d (p.segment d)) (J.base i) (J.base d) i d (begun p i) (begun p d)

  -- one turn of the choice: k against d, the best of those below k
  turn : (k d : ℕ) → w J.jobs ≡ 0 → Heaviest w J.jobs k d
      → cond (ready J p tick k) (cond (eqb d J.jobs) k (cond (beats J p k d) k d)) d ≡ iflt (w d) (w k) k d
  turn k d wn b = go (ready J p tick k) refl
    where
      go : (r : Bool) → ready J p tick k ≡ r → cond r (cond (eqb d J.jobs) k (cond (beats J p k d) k d)) d ≡ iflt (w d) (w k) k d
      go false e = sym (if-ge (w d) (w k) k d (omega (arith, rw e at (rank_ready k))))
      go true e =
          let wk : w k ≡ heavy_of k = rw e at (rank_ready k) in
          split d J.jobs
          (λ (h : d < J.jobs).
          let wd : w d ≡ heavy_of d = rw (pos_ready d (b.real h)) at (rank_ready d) in
          let later : ltb k d ≡ false = le-ltb k d (omega (arith, b.low h)) in
          rw (ne_eqb d J.jobs (omega arith), beats_order k d, later, and-false (eqb (heavy_of k) (heavy_of d)), or_false (ltb (heavy_of d) (heavy_of k)), wd, wk)
          (unfold iflt in refl))
          (λ (h : J.jobs ≤ d).
          let z : d ≡ J.jobs = omega (arith, b.inside) in
          rw (eq-eqb d J.jobs z) (sym (if-lt (w d) (w k) k d (omega (arith, ap w z, heavy_pos k)))))

  best_heaviest : (k : ℕ) → k ≤ J.jobs → w J.jobs ≡ 0 → best J p tick k ≡ heaviest w J.jobs k
  unfolding best heaviest
  best_heaviest zero h wn = refl
  best_heaviest (suc k) h wn = rw (best_heaviest k (omega arith) wn) (turn k (heaviest w J.jobs k) wn (heaviest_law w J.jobs k wn (omega arith)))

module _ (J : JobSet) (L : Lawful J) (p : Progress) (tick : ℕ) where
  none_weight : w J p tick J.jobs ≡ 0
  none_weight = omega (arith, rank_le J.jobs J.release (weight J (control_of p)) tick J.jobs, (released J L (control_of p)).v_n)

  -- the rules dispatch the job of the largest weight
  pub choice : best J p tick J.jobs ≡ picked J (control_of p) tick
  unfolding pick
  choice = best_heaviest J p tick J.jobs (omega arith) none_weight

  chosen : Heaviest (w J p tick) J.jobs J.jobs (best J p tick J.jobs)
  chosen = rw (best_heaviest J p tick J.jobs (omega arith) none_weight) (heaviest_law (w J p tick) J.jobs J.jobs none_weight (omega arith))

  -- ---- what is dispatched, in the rules' words

  -- it is ready
  pub best_ready : best J p tick J.jobs < J.jobs → ready J p tick (best J p tick J.jobs) ≡ true
  best_ready h = pos_ready J p tick (best J p tick J.jobs) (chosen.real h)

  -- it is one of the jobs, or none
  pub best_inside : best J p tick J.jobs ≤ J.jobs
  best_inside = chosen.inside

  -- where one is ready, one is dispatched
  pub best_some : (i : ℕ) → i < J.jobs → ready J p tick i ≡ true → best J p tick J.jobs < J.jobs
  best_some i h r =
      let d : ℕ = best J p tick J.jobs in
      split d J.jobs (λ q. q) (λ (q : J.jobs ≤ d).
      let e : d ≡ J.jobs = omega (arith, chosen.inside) in
      omega (arith, chosen.top i h, ap (w J p tick) e, none_weight, rw r at (rank_ready J p tick i), heavy_pos J p tick i))

  -- no ready job beats it
  pub best_unbeaten : (i : ℕ) → i < J.jobs → ready J p tick i ≡ true → beats J p i (best J p tick J.jobs) ≡ false
  best_unbeaten i h r =
      let d : ℕ = best J p tick J.jobs in
      let wi = rw r at (rank_ready J p tick i) in
      let wd = rw (best_ready (best_some i h r)) at (rank_ready J p tick d) in
      rw (beats_order J p tick i d, le-ltb (heavy_of J p tick d) (heavy_of J p tick i) (omega (arith, chosen.top i h))) (split i d
      (λ (q : i < d). rw (ne_eqb (heavy_of J p tick i) (heavy_of J p tick d) (omega (arith, chosen.tie i h q (omega (arith, heavy_pos J p tick i))))))
      (λ (q : d ≤ i). rw (le-ltb i d q) (and-false (eqb (heavy_of J p tick i) (heavy_of J p tick d)))))
