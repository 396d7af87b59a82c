use Rattle.lines.specs.Text.{node_lines}
use Rattle.lines.specs.Writer.{Writes}
use Rattle.lines.proofs.write_listing.Given as goal

abbrev pub invariant-loop-i : goal.invariant-loop-i
invariant-loop-i l = Writes l.initial.text (node_lines l.i l.words) l.text
