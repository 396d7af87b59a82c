use Rattle.lines.specs.Text.{head_line}
use Rattle.lines.specs.Writer.{line_then, line_end}
use Rattle.lines.proofs.head.Goals as goal

pub returns : goal.returns
unfolding head_line
returns c = line_then _ _ c.word.ensures (line_then _ _ c.number.ensures (line_then _ _ c.word-2.ensures (line_end c.number-2.ensures)))
