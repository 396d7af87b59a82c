use Rattle.std.proofs.Common.{length}
use Rattle.draft.specs.Words.{words_of}
use Rattle.draft.specs.Known.{known}
use Rattle.draft.specs.Laws.Knowing.{Naming}
use Rattle.draft.proofs.locks.Names.held_by.Given as goal

abbrev pub invariant-loop-name : goal.invariant-loop-name
invariant-loop-name l = Naming (known l.self) l.held (words_of l.rest) (known l.initial.self) (words_of l.line)

abbrev pub decreases-loop-name : goal.decreases-loop-name
decreases-loop-name l = length l.rest
