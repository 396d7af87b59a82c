-- A test of every number below another.
use Rattle.std.proofs.Common.{ℕ, ◌<◌, Bool, true, false, ◌↔◌, length, IsTrue, MatchBool, sym, refl, ◌∙◌, subst, zero-add, arith}
use Rattle.std.proofs.lemmas.Bool.{false≢true}
use Rattle.std.specs.List.{range_with_len, AllWithin, HoldsAt}
use Rattle.std.proofs.lemmas.List.FromFn.{length-range_with_len, get_or-range_with_len}

-- the answer of `all` over the range from 0
pub all_below : (n : ℕ) (P : ℕ → Type 0) (r : Bool)
    → MatchBool r (AllWithin P (range_with_len 0 n) 0 (length (range_with_len 0 n))) ((k : ℕ) × (k < length (range_with_len 0 n)) × HoldsAt (λ i. P i → ⊥) (range_with_len 0 n) k)
    → IsTrue r ↔ ((k : ℕ) → k < n → P k)
all_below n P true M = (λ t k h. subst P (get_or-range_with_len 0 n k 0 h ∙ zero-add k) (M k 0 (omega arith) (omega (arith, length-range_with_len 0 n))), λ f. refl)
all_below n P false M = (
  λ t. absurd (false≢true t),
  λ f.
      let (k, h, q) = M in
      let l : k < n = omega (arith, length-range_with_len 0 n) in
      absurd (q 0 (subst P (sym (get_or-range_with_len 0 n k 0 l ∙ zero-add k)) (f k l))),
)
