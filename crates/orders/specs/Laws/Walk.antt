-- The walk as data: from each switch down to whatever may follow it.
use Rattle.std.specs.Prelude.{ℕ, zero, suc, ◌+◌, ◌-◌, List, [], ◌∷◌}
use Rattle.kernel.specs.Rules.{JobSet, FIRST}
use Rattle.kernel.specs.Laws.Tests.{iflt}
use Rattle.kernel.specs.Jobs.{sum}
use Rattle.kernel.specs.Laws.Step.{State, present, first_tick, first_state}
use Rattle.orders.specs.Orders.{Label, Info, Forest, none, node}
use Rattle.orders.specs.Laws.Box.{Box, Child, children}

-- a child as a switch of the tree
abbrev pub label_for : Child → Label
label_for x = record { kind = x.kind; job = x.state.job; segment = present x.state }

abbrev pub info_for : Child → Info
info_for x = record { label = label_for x; earliest = x.first; latest = x.last; earliest_start = x.box.from; latest_start = x.box.to }

-- siblings, each with what grows below it
unfoldable pub hang : (State → Box → Forest) → List Child → Forest
hang below [] = none
hang below (x ∷ xs) = node (info_for x) (below x.state x.box) (hang below xs)

module _ (J : JobSet) where
  -- what may follow: nothing where no job runs
  unfoldable pub following : State → Box → List Child
  following S B = iflt S.job J.jobs (children J S B) []

  -- what grows below a box, at most so deep
  unfoldable pub grow : ℕ → State → Box → Forest
  grow zero S B = none
  grow (suc f) S B = hang (λ S' B'. grow f S' B') (following S B)

  -- the first dispatch of all runs
  abbrev pub first_box : Box
  first_box = record { from = first_tick J; to = first_tick J; least = J.shortest; most = J.longest }

  abbrev pub first_child : Child
  first_child = record { kind = FIRST; first = first_tick J; last = first_tick J; state = first_state J; box = first_box }

  -- how many switches may follow the first
  abbrev pub enough : ℕ
  enough = sum J.segments J.jobs + J.jobs - 1

  unfoldable pub the_tree : Forest
  the_tree = hang (grow enough) (first_child ∷ [])
