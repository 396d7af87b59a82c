use Rattle.std.proofs.Common.{arith}
use Rattle.lines.specs.Lengths.{listing_short}
use Rattle.lines.proofs.Listed.{known}
use Rattle.lines.proofs.listing.Goals as goal

pub returns-clause-short : goal.returns-clause-short
returns-clause-short c = omega (arith, c.write_listing.ensures.put.place, listing_short (known c.ranges.refusal c.ranges.nodes c.ranges.orders c.type_inv.words))
