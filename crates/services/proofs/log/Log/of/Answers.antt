use Rattle.std.proofs.Common.{arith}
use Rattle.services.proofs.Ran.{few_ran, words_ran}
use Rattle.services.proofs.log.Log.of.Goals as goal

pub overflow_mul-result : goal.overflow_mul-result
overflow_mul-result c = omega (arith, few_ran c.args.set.now _ c.requires _ _ c.run-switches.ensures)

pub invariant_of-result : goal.invariant_of-result
invariant_of-result c = omega (arith, few_ran c.args.set.now _ c.requires _ _ c.run-switches.ensures)

pub returns : goal.returns
returns c = words_ran c.args.set.now _ c.requires _ _ c.run-switches.ensures
