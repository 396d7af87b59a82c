-- Two words compared byte by byte.
use Rattle.std.specs.Prelude.{ℕ, suc, ◌+◌, ◌<◌, ◌≤◌, ◌≡◌, refl, List, [], ◌∷◌, Bool, true, false, ◌&&◌, length, get_or, drop, eqb}
use Rattle.std.proofs.Common.{add-one, arith, ap, drop_of_length-le, drop-cons, eq-eqb, ne_eqb}
use Rattle.draft.specs.Words.{same}

pub same_lengths : (a b : List ℕ) → (length a ≡ length b → ⊥) → false ≡ same a b
same_lengths [] [] d = absurd (d refl)
same_lengths [] (y ∷ ys) d = refl
same_lengths (x ∷ xs) [] d = refl
same_lengths (x ∷ xs) (y ∷ ys) d = go (eqb x y) (same_lengths xs ys (λ e. d (ap suc e)))
  where
    go : (t : Bool) → false ≡ same xs ys → false ≡ (t && same xs ys)
    go true h = h
    go false h = refl

pub same_step : (a b : List ℕ) (i : ℕ) → length a ≡ length b → i < length a → get_or a i 0 ≡ get_or b i 0 → same (drop i a) (drop i b) ≡ same (drop (i + 1) a) (drop (i + 1) b)
same_step a b i l h e =
    let h' : i < length b = omega (arith, l, h) in
    rw (add-one, drop-cons a i 0 h, drop-cons b i 0 h', eq-eqb (get_or a i 0) (get_or b i 0) e)

pub same_differ : (a b : List ℕ) (i : ℕ) → length a ≡ length b → i < length a → (get_or a i 0 ≡ get_or b i 0 → ⊥) → same (drop i a) (drop i b) ≡ false
same_differ a b i l h d =
    let h' : i < length b = omega (arith, l, h) in
    rw (drop-cons a i 0 h, drop-cons b i 0 h', ne_eqb (get_or a i 0) (get_or b i 0) d)

pub same_over : (a b : List ℕ) (i : ℕ) → length a ≡ length b → length a ≤ i → same (drop i a) (drop i b) ≡ true
same_over a b i l h =
    let h' : length b ≤ i = omega (arith, l, h) in
    rw (drop_of_length-le a h, drop_of_length-le b h')
