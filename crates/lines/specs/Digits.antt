-- The digits of a number: they read back as the number, with no leading zero.
use Rattle.std.specs.Prelude.{ℕ, zero, suc, ◌+◌, ◌-◌, ◌*◌, ◌/◌, ◌%◌, ◌^◌, ◌≤◌, ◌<◌, ◌≡◌, refl, List, [], ◌∷◌, ◌++◌, length, get_or}
use Rattle.std.proofs.Common.{pow-suc, arith, ap, sym, ◌∙◌, length-append, lt-ltb, le-ltb}
use Rattle.std.proofs.lemmas.Fmt.{decimal_by_steps}
use Rattle.std.specs.Fmt as std
use Rattle.std.proofs.Math.Decide.{dec_lt}
use Rattle.std.proofs.Math.ListN.{get_or-append}
use Rattle.std.proofs.lemmas.List.{get_or_at}
use Rattle.lines.specs.Text.{bytes, digit, digits, decimal}

-- any fuel that is not below n gives the same digits
digits_enough : (f g n : ℕ) → n ≤ f → n ≤ g → digits f n ≡ digits g n
unfolding digits
digits_enough zero zero n p q = refl
digits_enough zero (suc g) n p q = let h : n < 10 = omega arith in rw (lt-ltb n 10 h)
digits_enough (suc f) zero n p q = let h : n < 10 = omega arith in rw (lt-ltb n 10 h)
digits_enough (suc f) (suc g) n p q =
    elim (dec_lt n 10) [
      | yes h ↦ rw (lt-ltb n 10 h)
      | no h ↦ rw (le-ltb n 10 (omega arith)) (ap (λ (l : List ℕ). l ++ digit (n % 10) ∷ []) (digits_enough f g (n / 10) (omega arith) (omega arith)))
    ]

-- the numeral of a number below ten is its digit
pub decimal_small : (n : ℕ) → n < 10 → decimal n ≡ digit n ∷ []
unfolding decimal digits
decimal_small zero h = refl
decimal_small (suc n) h = rw (lt-ltb (suc n) 10 h)

-- any other has one digit more than that of its tenth
pub decimal_more : (n : ℕ) → 10 ≤ n → decimal n ≡ decimal (n / 10) ++ digit (n % 10) ∷ []
unfolding decimal digits
decimal_more zero h = absurd (omega arith)
decimal_more (suc n) h =
    rw (le-ltb (suc n) 10 h) (ap (λ (l : List ℕ). l ++ digit (suc n % 10) ∷ []) (digits_enough n (suc n / 10) (suc n / 10) (omega arith) (omega arith)))

-- the numeral is what std prints
pub decimal_std : (n : ℕ) → n < 2 ^ 64 → std.decimal n ≡ decimal n
decimal_std = decimal_by_steps (λ n s. s ≡ decimal n) (λ n h. sym (decimal_small n h)) more
  where
    more : (n : ℕ) (s : List ℕ) → 10 ≤ n → s ≡ decimal (n / 10) → s ++ digit (n % 10) ∷ [] ≡ decimal n
    more n s h e = ap (λ (l : List ℕ). l ++ digit (n % 10) ∷ []) e ∙ sym (decimal_more n h)

-- induction along the digits
module _ (P : ℕ → List ℕ → Type 0)
    (small : (n : ℕ) → n < 10 → P n (digit n ∷ []))
    (more : (n : ℕ) → 10 ≤ n → (s : List ℕ) → P (n / 10) s → P n (s ++ digit (n % 10) ∷ [])) where
  along_to : (f n : ℕ) → n ≤ f → P n (decimal n)
  along_to zero n h = rw (decimal_small n (omega arith)) (small n (omega arith))
  along_to (suc f) n h =
      elim (dec_lt n 10) [
        | yes l ↦ rw (decimal_small n l) (small n l)
        | no l ↦ rw (decimal_more n (omega arith)) (more n (omega arith) (decimal (n / 10)) (along_to f (n / 10) (omega arith)))
      ]

  pub along : (n : ℕ) → P n (decimal n)
  along n = along_to n n (omega arith)

-- the number that digits say, after those before
unfoldable pub read_on : ℕ → List ℕ → ℕ
read_on before [] = before
read_on before (d ∷ ds) = read_on (10 * before + (d - 48)) ds

unfoldable pub read : List ℕ → ℕ
read ds = read_on 0 ds

-- one digit more
read_last : (a : ℕ) (ds : List ℕ) (d : ℕ) → read_on a (ds ++ d ∷ []) ≡ 10 * read_on a ds + (d - 48)
unfolding read_on
read_last a [] d = refl
read_last a (x ∷ ds) d = read_last (10 * a + (x - 48)) ds d

-- s is the numeral of n: digits that say n, with no leading zero
pub record Numeral (n : ℕ) (s : List ℕ) : Type 0 where
  pub each : (i : ℕ) → i < length s → (48 ≤ get_or s i 0) × (get_or s i 0 ≤ 57)
  pub value : read s ≡ n
  pub first : 1 ≤ n → 48 < get_or s 0 0
  pub zero : n ≡ 0 → s ≡ bytes "0"

-- one digit is a numeral
numeral_small : (n : ℕ) → n < 10 → Numeral n (digit n ∷ [])
unfolding read read_on
numeral_small n h = record { each = in_range; value = omega arith; first = λ (p : 1 ≤ n). omega arith; zero = λ (e : n ≡ 0). rw e }
  where
    in_range : (i : ℕ) → i < 1 → (48 ≤ get_or (digit n ∷ []) i 0) × (get_or (digit n ∷ []) i 0 ≤ 57)
    in_range zero p = (omega arith, omega arith)
    in_range (suc i) p = absurd (omega arith)

-- a digit more leaves the first where it was
first_stays : (s : List ℕ) (d : ℕ) → 48 < get_or s 0 0 → 48 < get_or (s ++ d ∷ []) 0 0
first_stays [] d h = absurd (omega arith)
first_stays (x ∷ s) d h = h

-- and so is a numeral with one digit more
numeral_more : (n : ℕ) → 10 ≤ n → (s : List ℕ) → Numeral (n / 10) s → Numeral n (s ++ digit (n % 10) ∷ [])
unfolding read
numeral_more n h s N = record {
  each = in_range;
  value = read_last 0 s (digit (n % 10)) ∙ omega (arith, N.value);
  first = λ (p : 1 ≤ n). first_stays s (digit (n % 10)) (N.first (omega arith));
  zero = λ (e : n ≡ 0). absurd (omega arith);
}
  where
    in_range : (i : ℕ) → i < length (s ++ digit (n % 10) ∷ []) → (48 ≤ get_or (s ++ digit (n % 10) ∷ []) i 0) × (get_or (s ++ digit (n % 10) ∷ []) i 0 ≤ 57)
    in_range i p =
        elim (dec_lt i (length s)) [
          | yes l ↦ rw (get_or-append s (digit (n % 10) ∷ []) 0 i l) (N.each i l)
          | no l ↦
              let e : length s ≡ i = omega (arith, length-append s (digit (n % 10) ∷ [])) in
              rw (get_or_at s (digit (n % 10)) [] 0 i e) (omega arith, omega arith)
        ]

-- the digits of a number are its numeral
pub decimal_right : (n : ℕ) → Numeral n (decimal n)
decimal_right = along Numeral numeral_small numeral_more

-- a number below a power of ten has as many digits at most
decimal_length : (n k : ℕ) → n < 10 ^ suc k → length (decimal n) ≤ suc k
decimal_length = along (λ n s. (k : ℕ) → n < 10 ^ suc k → length s ≤ suc k) (λ n h k p. omega arith) more
  where
    more : (n : ℕ) → 10 ≤ n → (s : List ℕ) → ((k : ℕ) → n / 10 < 10 ^ suc k → length s ≤ suc k) → (k : ℕ) → n < 10 ^ suc k → length (s ++ digit (n % 10) ∷ []) ≤ suc k
    more n h s f zero p = absurd (omega arith)
    more n h s f (suc k) p = omega (arith, f k (omega (arith, pow-suc 10 (suc k))), length-append s (digit (n % 10) ∷ []))

-- so a number of 32 bits has ten at most
pub decimal_short : (n : ℕ) → n < 4294967296 → length (decimal n) ≤ 10
decimal_short n h = decimal_length n 9 (omega arith)

-- and one at least
pub decimal_some : (n : ℕ) → 1 ≤ length (decimal n)
decimal_some = along (λ n s. 1 ≤ length s) (λ n h. omega arith) (λ n h s p. omega (arith, length-append s (digit (n % 10) ∷ [])))
