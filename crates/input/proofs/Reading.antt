-- A read into the rest of a buffer: its filled front grows by what was read.
use Rattle.std.proofs.Common.{◌≡◌, ℕ, ◌+◌, ◌≤◌, List, ◌++◌, Option, length, take, sym, ap, ◌∙◌, subst, length-take-le}
use Rattle.std.specs.Io.KnownBytes.{Consumes}
use Rattle.std.proofs.KnownBytes.{Consumes-trans}
use Rattle.std.proofs.Math.Seq.{take-append-add}
use Rattle.std.proofs.lemmas.List.{take-append-le}

-- what stands after the front of n bytes and the m bytes behind it does not matter
take_both : (n m : ℕ) (xs ys rest : List ℕ) → n ≤ length xs → m ≤ length ys → take (n + m) (take n xs ++ (ys ++ rest)) ≡ take n xs ++ take m ys
take_both n m xs ys rest h k =
    ap (λ i. take (i + m) (take n xs ++ (ys ++ rest))) (sym (length-take-le n xs h))
    ∙ take-append-add (take n xs) (ys ++ rest) m
    ∙ ap (λ l. take n xs ++ l) (take-append-le m ys rest k)

-- n bytes were read, and m more behind them
pub read_more : (a b c : Option (List ℕ)) (n m : ℕ) (xs ys rest : List ℕ) → n ≤ length xs → m ≤ length ys → Consumes a b (take n xs) → Consumes b c (take m ys)
    → Consumes a c (take (n + m) (take n xs ++ (ys ++ rest)))
read_more a b c n m xs ys rest h k p q = subst (Consumes a c) (sym (take_both n m xs ys rest h k)) (Consumes-trans a b c (take n xs) (take m ys) p q)
