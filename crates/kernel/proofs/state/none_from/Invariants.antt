use Rattle.std.proofs.Common.{ℕ, ◌≤◌, ◌<◌, ◌≡◌}
use Rattle.kernel.specs.Held.{set_of}
use Rattle.kernel.proofs.state.none_from.Given as goal

abbrev pub invariant-loop-i : goal.invariant-loop-i
invariant-loop-i l = (j : ℕ) → l.m ≤ j → j < l.i → (set_of l.set.jobs).segments j ≡ 0
