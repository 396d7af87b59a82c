use Rattle.std.proofs.Common.{◌≡◌, ◌+◌, drop}
use Rattle.std.proofs.lemmas.List.Edits.{sets}
use Rattle.kernel.proofs.words.write.Given as goal

abbrev pub invariant-loop-i : goal.invariant-loop-i
invariant-loop-i g l = sets l.to (l.at + l.i) (drop l.i l.row) ≡ sets l.initial.to l.at l.row
