-- The tree in a buffer (paper 01, 'The tree'): eight words a node, in number order; and how many orders there are.
use Rattle.std.specs.Prelude.{ℕ, suc, ◌+◌}
use mathlib.Core.List.{List, [], ◌∷◌, flat_map}
use Rattle.kernel.specs.Rules.{JobSet}
use Rattle.kernel.specs.Log.{kind_number, nothing, named}
use Rattle.orders.specs.Orders.{Info, Forest, none, node, numbered}

-- parent, kind, job, segment, earliest and latest leaving tick, earliest and latest tick at which the named segment starts or resumes
abbrev pub node_words : JobSet → ℕ × Info → List ℕ
node_words J (parent, x) =
    parent ∷ kind_number x.label.kind ∷ named J x.label.job x.label.job ∷ named J x.label.job x.label.segment
    ∷ x.earliest ∷ x.latest ∷ x.earliest_start ∷ x.latest_start ∷ []

-- the nodes' words, node 0 first
abbrev pub tree_words : JobSet → Forest → List ℕ
tree_words J F = flat_map (node_words J) (numbered nothing 0 F)

-- how many orders: the nodes with nothing below them
unfoldable pub orders : Forest → ℕ
orders none = 0
orders (node x none beside) = suc (orders beside)
orders (node x (node y below later) beside) = orders (node y below later) + orders beside
