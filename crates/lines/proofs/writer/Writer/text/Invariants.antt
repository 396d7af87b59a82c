use Rattle.std.proofs.Common.{take}
use Rattle.lines.specs.Put.{Put}
use Rattle.lines.proofs.writer.Writer.text.Given as goal

abbrev pub invariant-loop-b : goal.invariant-loop-b
invariant-loop-b l = Put l.initial.out l.initial.at (take l.b-index l.s) l.out l.at
