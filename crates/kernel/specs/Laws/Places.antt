-- Functions changed at one place.
use Rattle.std.specs.Prelude.{◌≡◌, refl, ◌≢◌, ℕ, ◌+◌, Bool, true, false, cond, ◌&&◌, T, eqb}
use Rattle.std.proofs.Common.{sym, ap, ◌∙◌, eqb→eq, eq-eqb, ne_eqb}
use Rattle.std.proofs.Math.Path.{fun_ext}
use Rattle.std.proofs.Math.Decide.{ℕ_discrete}
use Rattle.kernel.specs.Rules.{put}

-- ---- one index

pub put_same {ℓ} : {X : Type ℓ} (f : ℕ → X) (j : ℕ) (x : X) → put f j x j ≡ x
unfolding put
put_same f j x = rw (eq-eqb j j refl)

pub put_other {ℓ} : {X : Type ℓ} (f : ℕ → X) (j : ℕ) (x : X) (i : ℕ) → i ≢ j → put f j x i ≡ f i
unfolding put
put_other f j x i h = rw (ne_eqb i j h)

pub put-noop {ℓ} : {X : Type ℓ} (f : ℕ → X) (j : ℕ) (x : X) → f j ≡ x → put f j x ≡ f
put-noop f j x h = fun_ext (λ i. elim (ℕ_discrete i j) [
  | yes q ↦ ap (put f j x) q ∙ put_same f j x ∙ sym (ap f q ∙ h)
  | no q ↦ put_other f j x i q
])

-- at the place, and elsewhere: two functions changed at the same place
pub put_both : (P : ℕ → ℕ → ℕ → Type 0) (f g : ℕ → ℕ) (j x y : ℕ) → P j x y → ((i : ℕ) → i ≢ j → P i (f i) (g i))
    → (i : ℕ) → P i (put f j x i) (put g j y i)
put_both P f g j x y h d i = elim (ℕ_discrete i j) [
  | yes q ↦ rw (q, put_same f j x, put_same g j y) h
  | no q ↦ rw (put_other f j x i q, put_other g j y i q) (d i q)
]

pub put_cases : (P : ℕ → ℕ → Type 0) (f : ℕ → ℕ) (j x : ℕ) → P j x → ((i : ℕ) → i ≢ j → P i (f i)) → (i : ℕ) → P i (put f j x i)
put_cases P f j x = put_both (λ i v u. P i v) f f j x x

-- ---- two indices

unfoldable pub put2 : (ℕ → ℕ → ℕ) → (j k x : ℕ) → ℕ → ℕ → ℕ
put2 f j k x i m = cond (eqb i j && eqb m k) x (f i m)

both : (i j m k : ℕ) → T (eqb i j && eqb m k) → (i ≡ j) × (m ≡ k)
both i j m k t = go (eqb i j) (eqb m k) (eqb→eq i j) (eqb→eq m k) t
  where
    go : (a b : Bool) → (T a → i ≡ j) → (T b → m ≡ k) → T (a && b) → (i ≡ j) × (m ≡ k)
    go true true p q t = (p tt, q tt)
    go true false p q t = absurd t
    go false true p q t = absurd t
    go false false p q t = absurd t

-- at the place, and elsewhere
pub put2_cases : (P : ℕ → Type 0) (f : ℕ → ℕ → ℕ) (j k x i m : ℕ) → (i ≡ j → m ≡ k → P x) → ((i ≡ j → m ≡ k → ⊥) → P (f i m)) → P (put2 f j k x i m)
unfolding put2
put2_cases P f j k x i m h g = go (eqb i j && eqb m k) (both i j m k) (λ p q. rw (p, q, eq-eqb j j refl, eq-eqb k k refl) tt)
  where
    go : (b : Bool) → (T b → (i ≡ j) × (m ≡ k)) → (i ≡ j → m ≡ k → T b) → P (cond b x (f i m))
    go true e d = h (e tt).0 (e tt).1
    go false e d = g d

pub put2_same : (f : ℕ → ℕ → ℕ) (j k x : ℕ) → put2 f j k x j k ≡ x
unfolding put2
put2_same f j k x = rw (eq-eqb j j refl, eq-eqb k k refl)

-- two functions changed at one place, by as much as their sum there stays
pub put2_sum : (f g : ℕ → ℕ → ℕ) (j k x y : ℕ) → x + y ≡ f j k + g j k → (i m : ℕ) → put2 f j k x i m + put2 g j k y i m ≡ f i m + g i m
unfolding put2
put2_sum f g j k x y h i m = go (eqb i j && eqb m k) (both i j m k)
  where
    go : (b : Bool) → (T b → (i ≡ j) × (m ≡ k)) → cond b x (f i m) + cond b y (g i m) ≡ f i m + g i m
    go true e = rw ((e tt).0, (e tt).1) h
    go false e = refl

-- changed twice at one place
pub put2_twice : (f : ℕ → ℕ → ℕ) (j k x y : ℕ) → put2 (put2 f j k x) j k y ≡ put2 f j k y
unfolding put2
put2_twice f j k x y = fun_ext (λ i. fun_ext (λ m. go (eqb i j && eqb m k) i m))
  where
    go : (b : Bool) (i m : ℕ) → cond b y (cond b x (f i m)) ≡ cond b y (f i m)
    go true i m = refl
    go false i m = refl

-- changed and changed back
pub put2_back : (f : ℕ → ℕ → ℕ) (j k x y : ℕ) → f j k ≡ y → put2 (put2 f j k x) j k y ≡ f
put2_back f j k x y h = put2_twice f j k x y
    ∙ fun_ext (λ i. fun_ext (λ m. put2_cases (λ v. v ≡ f i m) f j k y i m (λ p q. rw (p, q) (sym h)) (λ d. refl)))
