-- Sums of the first numbers of a function: with larger numbers, with more of them, and of another function with the same ones.
use Rattle.std.specs.Prelude.{ℕ, zero, suc, ◌+◌, ◌*◌, ◌≤◌, ◌<◌, ◌≡◌, refl}
use Rattle.std.specs.List.{range_with_len, sum_by}
use Rattle.std.proofs.Common.{add-one, arith, ap, ap₂, sym, ◌∙◌}
use Rattle.std.proofs.lemmas.List.{map-id}
use Rattle.std.proofs.lemmas.List.FromFn.{sum_by-map-range_with_len_more}
use Rattle.kernel.specs.Jobs.{sum}
use Rattle.kernel.specs.Laws.Tests.{split}

pub sum_le : (f g : ℕ → ℕ) (k : ℕ) → ((i : ℕ) → i < k → f i ≤ g i) → sum f k ≤ sum g k
unfolding sum
sum_le f g zero h = omega arith
sum_le f g (suc k) h = omega (arith, sum_le f g k (λ i q. h i (omega arith)), h k (omega arith))

pub sum_lt : (f g : ℕ → ℕ) (k j : ℕ) → ((i : ℕ) → i < k → f i ≤ g i) → j < k → f j < g j → sum f k < sum g k
unfolding sum
sum_lt f g zero j h q l = absurd (omega arith)
sum_lt f g (suc k) j h q l = split j k
    (λ (a : j < k). omega (arith, sum_lt f g k j (λ i z. h i (omega arith)) a l, h k (omega arith)))
    (λ (a : k ≤ j). let e : j ≡ k = omega arith in omega (arith, ap f e, ap g e, sum_le f g k (λ i z. h i (omega arith))))

pub sum_rises : (f : ℕ → ℕ) (m n : ℕ) → m ≤ n → sum f m ≤ sum f n
unfolding sum
sum_rises f m zero h = let e : m ≡ 0 = omega arith in rw e (omega arith)
sum_rises f m (suc n) h = split m (suc n)
    (λ (q : m < suc n). omega (arith, sum_rises f m n (omega arith)))
    (λ (q : suc n ≤ m). let e : m ≡ suc n = omega arith in rw e (omega arith))

pub sum_same : (f g : ℕ → ℕ) (n : ℕ) → ((i : ℕ) → i < n → f i ≡ g i) → sum f n ≡ sum g n
unfolding sum
sum_same f g zero h = refl
sum_same f g (suc n) h = ap₂ ◌+◌ (sum_same f g n (λ i q. h i (omega arith))) (h n (omega arith))

-- each is at most all
pub one_of_sum : (f : ℕ → ℕ) (n i : ℕ) → i < n → f i ≤ sum f n
unfolding sum
one_of_sum f n i h = omega (arith, sum_rises f (suc i) n h)

-- at most a million each
pub sum_millions : (f : ℕ → ℕ) (n : ℕ) → ((i : ℕ) → i < n → f i ≤ 1000000) → sum f n ≤ 1000000 * n
unfolding sum
sum_millions f zero h = omega arith
sum_millions f (suc n) h = omega (arith, sum_millions f n (λ i q. h i (omega arith)), h n (omega arith))

-- as the sum of a list of those numbers
pub sum_listed : (f : ℕ → ℕ) (n : ℕ) → sum_by f (range_with_len 0 n) ≡ sum f n
unfolding sum
sum_listed f zero = refl
sum_listed f (suc n) =
    ap (λ (k : ℕ). sum_by f (range_with_len 0 k)) (sym (add-one n))
    ∙ ap (sum_by f) (sym (map-id (range_with_len 0 (n + 1))))
    ∙ sum_by-map-range_with_len_more f (λ i. i) 0 n n (omega arith)
    ∙ ap (λ l. sum_by f l + f n) (map-id (range_with_len 0 n))
    ∙ ap (λ (m : ℕ). m + f n) (sum_listed f n)

-- a loop that has added none, adds one more, and has added all
pub sum_none : (f : ℕ → ℕ) → 0 ≡ sum f 0
unfolding sum
sum_none f = refl

pub sum_more : (f : ℕ → ℕ) (k t v r : ℕ) → t ≡ sum f k → v ≡ f k → r ≡ t + v → r ≡ sum f (k + 1)
unfolding sum
sum_more f k t v r e p q = rw (add-one k, ← e, ← p) q

pub sum_all : (f : ℕ → ℕ) (n k t : ℕ) → k ≤ n → n ≤ k → t ≡ sum f k → t ≡ sum f n
sum_all f n k t h q e = let z : n ≡ k = omega arith in rw z e
