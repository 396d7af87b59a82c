use Rattle.lines.specs.Text.{node_line}
use Rattle.lines.specs.Writer.{line_then, line_end}
use Rattle.lines.proofs.node.Goals as goal

pub returns : goal.returns
unfolding node_line
returns c =
    line_then _ _ c.number.ensures
    (line_then _ _ c.field.ensures
    (line_then _ _ c.kind.ensures
    (line_then _ _ c.field-2.ensures
    (line_then _ _ c.field-3.ensures
    (line_then _ _ c.field-4.ensures
    (line_then _ _ c.field-5.ensures
    (line_then _ _ c.field-6.ensures (line_end c.field-7.ensures))))))))
