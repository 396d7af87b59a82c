use Rattle.lines.proofs.Listed.{known, no_lines, line_more, line_fits, all_refused, all_nodes}
use Rattle.lines.proofs.write_listing.Goals as goal

pub returns-then-refusal-ne0 : goal.returns-then-refusal-ne0
returns-then-refusal-ne0 c = all_refused (known c.ranges.refusal c.ranges.nodes c.ranges.orders c.type_inv.words) c.if-refusal-ne0.true c.refused.ensures

pub loop-i-init : goal.loop-i-init
loop-i-init c = no_lines _ _

pub node-requires : goal.node-requires
node-requires c = line_fits (known c.ranges.refusal c.ranges.nodes c.ranges.orders c.type_inv.words) _ c.loop-i-test.true c.requires c.head.ensures c.loop-i.invariant

pub loop-i-preserved : goal.loop-i-preserved
loop-i-preserved c = line_more _ _ c.loop-i.invariant (rw c.at.ensures at c.node.ensures)

pub returns : goal.returns
returns c = all_nodes (known c.ranges.refusal c.ranges.nodes c.ranges.orders c.type_inv.words) _ c.if-refusal-ne0.false c.loop-i.auto.i-end c.loop-i-test.false c.head.ensures c.loop-i.invariant
