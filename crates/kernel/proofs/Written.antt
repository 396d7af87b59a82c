-- A row of words that is written from a place on, one by one.
use Rattle.std.proofs.Common.{ℕ, suc, ◌+◌, ◌≤◌, ◌<◌, arith, ◌≡◌, sym, ap, ◌∙◌, List, ◌∷◌, length, get_or, set, drop, min}
use Rattle.std.proofs.Math.Seq.{drop-cons, set_out}
use Rattle.std.proofs.lemmas.List.Edits.{sets}

module _ {X : Type 0} (l row : List X) (at i : ℕ) (x : X) (h : i < length row) (e : x ≡ get_or row i x) where
  one_more : sets (set l (at + i) x) (at + (i + 1)) (drop (i + 1) row) ≡ sets l (at + i) (drop i row)
  one_more =
      let d : drop i row ≡ x ∷ drop (suc i) row = drop-cons row i x h ∙ ap (λ (y : X). y ∷ drop (suc i) row) (sym e) in
      let a : i + 1 ≡ suc i = omega arith in
      let b : at + suc i ≡ suc (at + i) = omega arith in
      rw (d, a, b)

  -- it has its place
  pub word_in : (l' : List X) (place : ℕ) → length l ≤ 18446744073709551615 → place ≡ min (at + i) 18446744073709551615 → place < length l → l' ≡ set l place x
      → sets l' (at + (i + 1)) (drop (i + 1) row) ≡ sets l (at + i) (drop i row)
  word_in l' place n p q s = let a : place ≡ at + i = omega arith in rw (s, a) one_more

  -- there is no room for it
  pub word_out : (l' : List X) (place : ℕ) → place ≡ min (at + i) 18446744073709551615 → length l ≤ place → l' ≡ l
      → sets l' (at + (i + 1)) (drop (i + 1) row) ≡ sets l (at + i) (drop i row)
  word_out l' place p q s =
      ap (λ (z : List X). sets z (at + (i + 1)) (drop (i + 1) row)) (s ∙ sym (set_out l (at + i) x (omega arith))) ∙ one_more
