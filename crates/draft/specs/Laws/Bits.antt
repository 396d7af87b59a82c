-- The bit of a lock.
use Rattle.std.specs.Prelude.{ℕ, ◌*◌, ◌^◌, ◌%◌, ◌≤◌, ◌<◌, ◌≡◌}
use Rattle.std.proofs.Math.Nat.{pow-le-pow_right}
use Rattle.std.proofs.Common.{mod-eq_of_lt, arith}
use Rattle.std.specs.Int.Bits.{bit_or}

pub bit_small : (k : ℕ) → k < 16 → 2 ^ k < 65536
bit_small k h =
    let two : 0 < 2 = omega arith in
    let top : k ≤ 15 = omega arith in
    let l : 2 ^ k ≤ 2 ^ 15 = pow-le-pow_right two top in
    omega arith

-- as the code shifts it
pub bit_is : (held k : ℕ) → k < 16 → bit_or held (1 * 2 ^ k % 65536) ≡ bit_or held (2 ^ k)
bit_is held k h =
    let one : 1 * 2 ^ k ≡ 2 ^ k = omega arith in
    let l : 2 ^ k < 65536 = bit_small k h in
    rw (one, mod-eq_of_lt l)
