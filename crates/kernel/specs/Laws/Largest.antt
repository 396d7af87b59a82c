-- The largest of the first numbers of a function.
use Rattle.std.specs.Prelude.{ℕ, zero, suc, ◌+◌, ◌≤◌, ◌<◌, max, ◌≡◌, refl, Bool, true, false, cond}
use Rattle.std.proofs.Common.{add-one, arith, ap₂}
use Rattle.kernel.specs.Jobs.{largest}
use Rattle.kernel.specs.Laws.Tests.{below}

pub largest_le : (f : ℕ → ℕ) (n b : ℕ) → ((k : ℕ) → k < n → f k ≤ b) → largest f n ≤ b
unfolding largest
largest_le f zero b h = omega arith
largest_le f (suc n) b h = omega (arith, largest_le f n b (λ k q. h k (omega arith)), h n (omega arith))

pub le_largest : (f : ℕ → ℕ) (n k : ℕ) → k < n → f k ≤ largest f n
unfolding largest
le_largest f zero k h = absurd (omega arith)
le_largest f (suc n) k h =
    below (λ j. f j ≤ largest f (suc n)) n (λ j q. omega (arith, le_largest f n j q)) (omega arith) k h

-- two functions with the same first numbers
pub largest_same : (f g : ℕ → ℕ) (n : ℕ) → ((k : ℕ) → k < n → f k ≡ g k) → largest f n ≡ largest g n
unfolding largest
largest_same f g zero h = refl
largest_same f g (suc n) h = ap₂ max (largest_same f g n (λ k q. h k (omega arith))) (h n (omega arith))

-- numbers that are 0 from n on add nothing
pub largest_past : (f : ℕ → ℕ) (n x : ℕ) → ((i : ℕ) → n ≤ i → f i ≡ 0) → largest f (x + n) ≡ largest f n
unfolding largest
largest_past f n zero h = let e : zero + n ≡ n = omega arith in rw e
largest_past f n (suc x) h =
    let e : suc x + n ≡ suc (x + n) = omega arith in
    rw e (omega (arith, largest_past f n x h, h (x + n) (omega arith)))

-- one of them is reached and none exceeds it
pub largest_is : (f : ℕ → ℕ) (n k b : ℕ) → k < n → f k ≡ b → ((j : ℕ) → j < n → f j ≤ b) → largest f n ≡ b
largest_is f n k b h e m = omega (arith, le_largest f n k h, largest_le f n b m)

-- a number that counts only on a condition
pub if_most : (b : Bool) (x m : ℕ) → x ≤ m → cond b x 0 ≤ m
if_most true x m h = h
if_most false x m h = omega arith

-- a loop that has taken none, takes one number more, and has taken all
pub largest_none : (f : ℕ → ℕ) → 0 ≡ largest f 0
unfolding largest
largest_none f = refl

pub largest_more : (f : ℕ → ℕ) (k m v r : ℕ) → m ≡ largest f k → v ≡ f k → r ≡ max m v → r ≡ largest f (k + 1)
unfolding largest
largest_more f k m v r e p q = rw (add-one k, ← e, ← p) q

pub largest_all : (f : ℕ → ℕ) (n k m : ℕ) → k ≤ n → n ≤ k → m ≡ largest f k → m ≡ largest f n
largest_all f n k m h q e = let z : n ≡ k = omega arith in rw z e
