-- What the walk gives: the tree of the theory, which is proved to be the tree of all orders.
use Rattle.kernel.specs.declared.jobs.Jobs.{Jobs}
use Rattle.std.specs.Prelude.{ℕ, ◌/◌, ◌≤◌, ◌<◌, min, ◌≡◌, Option, Some, None, List, length}
use Rattle.std.proofs.lemmas.List.Edits.{sets}
use Rattle.kernel.specs.Rules.{JobSet}
use Rattle.kernel.specs.Log.{nothing}
use Rattle.kernel.specs.Held.{set_of}
use Rattle.orders.specs.Orders.{size}
use Rattle.orders.specs.Nodes.{tree_words, orders}
use Rattle.orders.specs.Laws.Walk.{the_tree}
use Rattle.walk.specs.Descent.{Wrote}
use Rattle.walk.specs.Counts.{no_counts}
use Rattle.walk.specs.declared.counts.Counts.{Counts}

-- how many nodes so many words hold, at most 1,000,000
abbrev pub room_of : ℕ → ℕ
room_of words = min (words / 8) 1000000

-- the whole tree was walked
abbrev pub Passed : (w : Jobs) (cap : ℕ) (before after : List ℕ) → Counts → Type 0
Passed w cap before after c = Wrote (set_of w) (the_tree (set_of w)) nothing cap before no_counts after c

-- the tree stands at the start of the words, and nothing after it is touched; or nothing is where it has more nodes than there is room for
pub record Walked (J : JobSet) (before after : List ℕ) (r : Option Counts) : Type 0 where
  pub whole : size (the_tree J) ≤ room_of (length before)
      → (r ≡ Some (record { nodes = size (the_tree J); orders = orders (the_tree J) })) × (after ≡ sets before 0 (tree_words J (the_tree J)))
  pub large : room_of (length before) < size (the_tree J) → (r ≡ None) × (after ≡ before)
