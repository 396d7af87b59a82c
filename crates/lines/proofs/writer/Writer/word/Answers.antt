use Rattle.lines.specs.Writer.{writes_word}
use Rattle.lines.proofs.writer.Writer.word.Goals as goal

pub returns : goal.returns
returns c = writes_word c.requires.1 c.text.ensures c.text-2.ensures
