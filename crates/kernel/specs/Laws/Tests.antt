-- Cases by a comparison of two numbers.
use Rattle.std.specs.Prelude.{◌≡◌, refl, Bool, true, false, cond, ◌&&◌, ℕ, suc, ◌≤◌, ◌<◌, ltb}
use Rattle.std.proofs.Math.Decide.{dec_lt}
use Rattle.std.proofs.Common.{arith, lt-ltb, le-ltb}

pub split {ℓ} : {X : Type ℓ} (a b : ℕ) → (a < b → X) → (b ≤ a → X) → X
split a b f g = elim (dec_lt a b) [ yes h ↦ f h | no h ↦ g (omega arith) ]

unfoldable pub iflt {ℓ} : {X : Type ℓ} → ℕ → ℕ → X → X → X
iflt a b x y = cond (ltb a b) x y

pub if-lt {ℓ} : {X : Type ℓ} (a b : ℕ) (x y : X) → a < b → iflt a b x y ≡ x
unfolding iflt
if-lt a b x y h = rw (lt-ltb a b h)

pub if-ge {ℓ} : {X : Type ℓ} (a b : ℕ) (x y : X) → b ≤ a → iflt a b x y ≡ y
unfolding iflt
if-ge a b x y h = rw (le-ltb a b h)

-- a number below suc k is below k or is k
pub below {ℓ} : (P : ℕ → Type ℓ) (k : ℕ) → ((i : ℕ) → i < k → P i) → P k → (i : ℕ) → i < suc k → P i
below P k f g i h = split i k (λ (hk : i < k). f i hk) (λ (ge : k ≤ i). let e : i ≡ k = omega arith in rw e g)

-- cases by a Bool, with what it is
pub by_cond {ℓ} : {X : Type ℓ} (P : X → Type 0) (b : Bool) (x y : X) → (b ≡ true → P x) → (b ≡ false → P y) → P (cond b x y)
by_cond P true x y f g = f refl
by_cond P false x y f g = g refl

pub both_true : (a b : Bool) → (a && b) ≡ true → (a ≡ true) × (b ≡ true)
both_true true b e = (refl, e)
both_true false b e = absurd (let z : ◌≡◌ {A = ℕ} 0 1 = cc in omega arith)
