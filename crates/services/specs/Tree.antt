-- Tree: a table to all orders (paper 01, 'The tree').
use Rattle.std.specs.Prelude.{ℕ, ◌/◌, ◌≤◌, ◌<◌, min, ◌≡◌, List, length, Result, Ok}
use Rattle.std.proofs.lemmas.List.Edits.{sets}
use Rattle.kernel.specs.Rules.{JobSet}
use Rattle.orders.specs.Orders.{Forest, size, TreeOf}
use Rattle.orders.specs.Nodes.{tree_words, orders}
use Rattle.services.specs.Refusals.{Declines}
use Rattle.services.specs.Open.{jobs_in, Answered}
use Rattle.walk.specs.declared.counts.Counts.{Counts}
use Rattle.services.specs.declared.refusal.Refusal.{Refusal}

-- room for nodes: the words divided by 8, rounded down, at most 1,000,000
abbrev pub room_in : List ℕ → ℕ
room_in words = min (length words / 8) 1000000

module _ (before after : List ℕ) (r : Result Counts Refusal) where
  -- with a refusal the lent words hold what they held
  abbrev pub Declined : ℕ → Type 0
  Declined n = Declines r n × (after ≡ before)

  -- F being the tree of all orders of the job set: it stands at the start of the lent words, and nothing after it is touched
  pub record Trees (J : JobSet) : Type 0 where
    -- 7: it has more nodes than there is room for
    pub large : (F : Forest) → TreeOf J F → room_in before < size F → Declined 7
    pub done : (F : Forest) → TreeOf J F → size F ≤ room_in before
        → (r ≡ Ok (record { nodes = size F; orders = orders F })) × (after ≡ sets before 0 (tree_words J F))

-- what tree promises
abbrev pub TreePromise : (bytes before after : List ℕ) → Result Counts Refusal → Type 0
TreePromise bytes before after r = Answered bytes (Declined before after r) (Trees before after r (jobs_in bytes))
