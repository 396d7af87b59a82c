-- Nodes, and those of them that end a run.
use Rattle.std.specs.Prelude.{ℕ, ◌+◌, ◌≤◌}
use Rattle.walk.specs.declared.counts.Counts.{Counts}

abbrev pub no_counts : Counts
no_counts = record { nodes = 0; orders = 0 }

-- there can be one more of each
pub record Few (c : Counts) : Type 0 where
  pub nodes : c.nodes ≤ 1000000
  pub orders : c.orders ≤ 1000000

-- a count is within its limit
pub record Room (c : Counts) (cap : ℕ) : Type 0 where
  pub nodes : c.nodes ≤ cap
  pub orders : c.orders ≤ c.nodes
  pub most : cap ≤ 1000001

-- one node more, that does not end a run, and that does
abbrev pub with_node : Counts → Counts
with_node c = record { nodes = c.nodes + 1; orders = c.orders }

abbrev pub with_order : Counts → Counts
with_order c = record { nodes = c.nodes + 1; orders = c.orders + 1 }
