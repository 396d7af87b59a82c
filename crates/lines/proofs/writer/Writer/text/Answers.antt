use Rattle.std.proofs.Common.{arith, refl}
use Rattle.lines.specs.Put.{put_byte}
use Rattle.lines.proofs.writer.Writer.text.Goals as goal

pub loop-b-preserved : goal.loop-b-preserved
loop-b-preserved c = put_byte c.args.s.now c.loop-b.b-index (omega (arith, c.loop-b-test.true)) c.loop-b.invariant (record { place = refl; content = c.store.ensures })
