-- No path of the walk's tree has more nodes than segments plus jobs.
use Rattle.std.specs.Prelude.{ℕ, zero, suc, ◌+◌, ◌≤◌, ◌<◌, max, length}
use native.Mathlib.Omega.{arith}
use mathlib.Core.List.{List, [], ◌∷◌, map}
use Rattle.kernel.specs.Rules.{JobSet}
use Rattle.kernel.specs.Laws.Tests.{split, if-lt, if-ge}
use Rattle.kernel.specs.Laws.Control.{Lawful}
use Rattle.kernel.specs.Jobs.{sum}
use Rattle.kernel.specs.Laws.Fall.{potential}
use Rattle.kernel.specs.Laws.Step.{State, first_state}
use Rattle.orders.specs.Orders.{Forest, none, node}
use Rattle.orders.specs.Laws.Lists.{All, all_map, all_zip, all_append, all_of_map}
use Rattle.orders.specs.Laws.Paths.{ways, down_to}
use Rattle.orders.specs.Laws.Box.{Box, Child, children, Sound}
use Rattle.orders.specs.Laws.Child.{Owes, Fits}
use Rattle.orders.specs.Laws.Exact.{fits}
use Rattle.orders.specs.Laws.Walk.{hang, following, grow, first_child, first_box, enough, the_tree}
use Rattle.orders.specs.Laws.Siblings.{Less, less}
use Rattle.orders.specs.Laws.First.{first_fits, first_less}

-- the nodes of the longest path
unfoldable pub height : Forest → ℕ
height none = 0
height (node x below beside) = max (suc (height below)) (height beside)

pub ways_height : (F : Forest) → All (λ xs. length xs ≤ height F) (ways F)
unfolding down_to height
ways_height none = tt
ways_height (node x below beside) = (
  omega arith,
  all_append _ (map (λ ys. x.label ∷ ys) (ways below)) (ways beside)
      (all_of_map (λ ys. x.label ∷ ys) _ (ways below) (all_map _ _ (λ ys h. omega arith) (ways below) (ways_height below)))
      (all_map _ _ (λ ys h. omega arith) (ways beside) (ways_height beside)),
)

hang_height : (below : State → Box → Forest) (n : ℕ) (l : List Child) → All (λ x. height (below x.state x.box) < n) l → height (hang below l) ≤ n
unfolding hang height
hang_height below n [] h = omega arith
hang_height below n (x ∷ xs) h = omega (arith, h.0, hang_height below n xs h.1)

module _ (J : JobSet) (L : Lawful J) where
  abbrev Low : ℕ → Type 0
  Low f = (S : State) (B : Box) → Owes J S B → height (grow J f S B) ≤ potential J S.control

  low_step : (f : ℕ) → Low f → Low (suc f)
  unfolding grow following
  low_step f ih S B owes = split S.job J.jobs
      (λ (h : S.job < J.jobs).
      let O : Sound J S B = owes h in
      rw (if-lt S.job J.jobs (children J S B) [] h) (hang_height (grow J f) _ (children J S B)
      (all_zip (Fits J) (Less J L S B O) _ (λ x F l. omega (arith, ih x.state x.box F.kept)) (children J S B) (fits J L S B O) (less J L S B O))))
      (λ (h : J.jobs ≤ S.job). rw (if-ge S.job J.jobs (children J S B) [] h) (unfold hang height in omega arith))

  grow_height : (f : ℕ) → Low f
  grow_height zero S B owes = unfold grow height in omega arith
  grow_height (suc f) S B owes = low_step f (grow_height f) S B owes

  pub tree_height : height (the_tree J) ≤ sum J.segments J.jobs + J.jobs
  unfolding the_tree
  tree_height = hang_height (grow J (enough J)) _ (first_child J ∷ [])
      (omega (arith, first_less J L, grow_height (enough J) (first_state J) (first_box J) (first_fits J L).kept), tt)

  pub ways_short : All (λ xs. length xs ≤ sum J.segments J.jobs + J.jobs) (ways (the_tree J))
  ways_short = all_map _ _ (λ xs h. omega (arith, tree_height)) (ways (the_tree J)) (ways_height (the_tree J))
