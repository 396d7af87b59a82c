use Rattle.std.proofs.Common.{◌≡◌, refl, arith, rules}
use Rattle.kernel.specs.Code.{no_standing}
use Rattle.kernel.proofs.Arrays.{all_over}
use Rattle.kernel.proofs.Filled.{none_filled}
use Rattle.kernel.proofs.state.Standings.fresh.Goals as goal

pub loop-i-init : goal.loop-i-init
loop-i-init c = let e : c.default-job.result ≡ no_standing = search rules in rw e (none_filled _ _)

pub returns : goal.returns
returns c =
    let inv = c.loop-i.invariant in
    record {
      jobs = inv.jobs;
      segment = inv.segment;
      rest = λ i h. inv.rest i (omega (arith, c.loop-i-test.false));
      key = all_over 0 32;
      keys = refl;
      released = refl;
      running = refl;
      due = refl;
    }
