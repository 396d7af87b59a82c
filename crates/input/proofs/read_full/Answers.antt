use Rattle.std.proofs.Common.{rules}
use Rattle.input.proofs.Reading.{read_more}
use Rattle.input.proofs.read_full.Goals as goal

pub loop-n-preserved : goal.loop-n-preserved
loop-n-preserved g c = record {
  within = search rules;
  bytes = read_more _ _ _ _ _ _ _ _ c.loop-n.invariant.within c.in_ok-more.ensures.bound.0 c.loop-n.invariant.bytes c.in_ok-more.ensures.bytes.0;
}
