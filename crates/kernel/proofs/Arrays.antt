-- A row with one value all over.
use Rattle.std.proofs.Common.{ℕ, arith, ◌≡◌, get_or, replicate}
use Rattle.std.proofs.Math.ListN.{get_or-replicate, length-replicate, get_or-eq_default}
use Rattle.kernel.specs.Laws.Tests.{split}

pub all_over : {X : Type 0} (x : X) (n i : ℕ) → get_or (replicate n x) i x ≡ x
all_over {X} x n i = split i n (λ h. get_or-replicate {A = X} n i x x h) (λ h. get_or-eq_default {A = X} (replicate n x) x (omega (arith, length-replicate {A = X} n x)))
