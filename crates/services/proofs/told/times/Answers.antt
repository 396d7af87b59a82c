use Rattle.services.proofs.Entries.{heard_next}
use Rattle.services.proofs.told.times.Goals as goal

pub loop-tick-preserved : goal.loop-tick-preserved
loop-tick-preserved c =
    let switches = c.as_chunks.ensures in
    heard_next _ _ _ _ _ _ _ _ switches.front switches.front_len c.loop-tick-test.true c.loop-tick.invariant c.credit.ensures c.next-ran.ensures
