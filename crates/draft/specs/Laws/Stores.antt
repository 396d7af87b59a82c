-- Stores into an array.
use Rattle.std.specs.Prelude.{ℕ, suc, ◌+◌, ◌<◌, ◌≤◌, ◌≡◌, List, [], ◌∷◌, ◌++◌, length, get_or, take, set}
use Rattle.std.proofs.Common.{add-one, arith, sym, ◌∙◌, take-suc, length-take-le}
use Rattle.std.proofs.Math.ListN.{get_or-eq_default}
use Rattle.std.proofs.Math.Seq.{set_out}
use Rattle.std.proofs.lemmas.List.Edits.{sets}

-- past the end nothing is stored, and 0 is read
pub store_past : (l : List ℕ) (i v : ℕ) → length l ≤ i → l ≡ set l i v
store_past l i v h = sym (set_out l i v h)

pub read_past : (l : List ℕ) (i : ℕ) → length l ≤ i → 0 ≡ get_or l i 0
read_past l i h = sym (get_or-eq_default l 0 h)

pub array_read_past : (n : ℕ) (l : List ℕ) (i : ℕ) → length l ≡ n → n ≤ i → 0 ≡ get_or l i 0
array_read_past n l i e h = read_past l i (omega arith)

-- two and four stores in a row
pub two_stores : (a b c : List ℕ) (i x y : ℕ) → b ≡ set a i x → c ≡ set b (i + 1) y → c ≡ sets a i (x ∷ y ∷ [])
two_stores a b c i x y p q = q ∙ rw (p, add-one)

pub four_stores : (a b c d e : List ℕ) (i x y z w : ℕ) → b ≡ set a i x → c ≡ set b (i + 1) y → d ≡ set c (i + 2) z → e ≡ set d (i + 3) w
    → e ≡ sets a i (x ∷ y ∷ z ∷ w ∷ [])
four_stores a b c d e i x y z w p q r s =
    let e1 : i + 1 ≡ suc i = omega arith in
    let e2 : i + 2 ≡ suc (suc i) = omega arith in
    let e3 : i + 3 ≡ suc (suc (suc i)) = omega arith in
    s ∙ rw (r, q, p, e1, e2, e3)

-- a row of stores after another
pub sets_sets : (l xs ys : List ℕ) (i j : ℕ) → j ≡ i + length xs → sets (sets l i xs) j ys ≡ sets l i (xs ++ ys)
sets_sets l [] ys i j e = let h : j ≡ i = omega arith in rw h
sets_sets l (x ∷ xs) ys i j e = sets_sets (set l i x) xs ys (suc i) j (omega arith)

pub then_stores : (a b c xs ys : List ℕ) (i j : ℕ) → j ≡ i + length xs → b ≡ sets a i xs → c ≡ sets b j ys → c ≡ sets a i (xs ++ ys)
then_stores a b c xs ys i j e p q = q ∙ rw p (sets_sets a xs ys i j e)

-- one element more of a copy
pub copy_more : (out from l : List ℕ) (i : ℕ) → i < length from → l ≡ sets out 0 (take i from) → set l i (get_or from i 0) ≡ sets out 0 (take (i + 1) from)
copy_more out from l i h e =
    let h' : i ≤ length from = omega arith in
    let at : i ≡ 0 + length (take i from) = omega (arith, length-take-le i from h') in
    rw (e, add-one, take-suc from i 0 h) (sets_sets out (take i from) (get_or from i 0 ∷ []) 0 i at)
