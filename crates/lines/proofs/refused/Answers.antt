use Rattle.lines.specs.Text.{refused_line}
use Rattle.lines.specs.Writer.{line_then, line_end}
use Rattle.lines.proofs.refused.Goals as goal

pub returns : goal.returns
unfolding refused_line
returns c = line_then _ _ c.word.ensures (line_end c.number.ensures)
