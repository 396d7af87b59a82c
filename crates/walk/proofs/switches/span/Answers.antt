use Rattle.std.proofs.Common.{rules}
use Rattle.walk.specs.Laws.Spanned.{some_end}
use Rattle.walk.proofs.switches.span.Goals as goal

pub overflow_sub-end : goal.overflow_sub-end
overflow_sub-end c = search (rules, some_end)
