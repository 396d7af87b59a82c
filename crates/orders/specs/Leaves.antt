-- The leaves of a tree (paper 01, 'The tree'): each with its node number and the path down to it.
use Rattle.std.specs.Prelude.{ℕ, ◌+◌, List, [], ◌∷◌, ◌++◌}
use Rattle.orders.specs.Orders.{Label, Forest, none, node, size}

-- a leaf: the number of its node, and the labels of the path from the root down to it
pub record Leaf : Type 0 where
  pub node : ℕ
  pub path : List Label

-- the leaves among siblings below a path and what stands below them, in node order; the first sibling has the node number `at`
unfoldable pub leaves_from : (at : ℕ) (path : List Label) → Forest → List Leaf
leaves_from at path none = []
leaves_from at path (node x none beside) = record { node = at; path = path ++ x.label ∷ [] } ∷ leaves_from (at + 1) path beside
leaves_from at path (node x (node y below later) beside) =
    leaves_from (at + 1) (path ++ x.label ∷ []) (node y below later) ++ leaves_from (at + 1 + size (node y below later)) path beside

-- A leaf's number is its place in this list, from 0; it is not its node number.
abbrev pub leaves : Forest → List Leaf
leaves F = leaves_from 0 [] F
