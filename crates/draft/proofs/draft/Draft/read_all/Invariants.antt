use Rattle.std.proofs.Common.{length}
use Rattle.draft.specs.Laws.TextLines.{Going}
use Rattle.draft.proofs.draft.Draft.read_all.Given as goal

abbrev pub invariant-loop-line : goal.invariant-loop-line
invariant-loop-line l = Going l.text l.self (length l.yielded)
