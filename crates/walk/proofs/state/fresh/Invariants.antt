use Rattle.std.proofs.Common.{ℕ, ◌<◌, ◌≡◌, length}
use Rattle.kernel.specs.Held.{set_of}
use Rattle.walk.specs.State.{standing_at, new_at}
use Rattle.walk.proofs.state.fresh.Given as goal

abbrev pub invariant-loop-i : goal.invariant-loop-i
invariant-loop-i l = record { size : length l.job-items ≡ 32; jobs : (j : ℕ) → j < l.i → standing_at l.job-items j ≡ new_at (set_of l.set.jobs) j }
