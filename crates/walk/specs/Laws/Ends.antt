-- In the walk's tree the nodes without a job are those with nothing below them: to count the ones is to count the orders.
use Rattle.std.proofs.Common.{ℕ, zero, suc, ◌+◌, ◌≤◌, ◌<◌, arith, refl, List, [], ◌∷◌}
use Rattle.std.specs.Prelude.{◌≡◌}
use Rattle.kernel.specs.Rules.{JobSet}
use Rattle.kernel.specs.Laws.Tests.{split, if-lt, if-ge}
use Rattle.kernel.specs.Laws.Sums.{one_of_sum}
use Rattle.kernel.specs.Laws.Control.{Lawful}
use Rattle.kernel.specs.Laws.Fall.{due, potential, alive_seg}
use Rattle.kernel.specs.Laws.Step.{State, Point, step}
use Rattle.orders.specs.Orders.{Info, Forest, none, node}
use Rattle.orders.specs.Nodes.{orders}
use Rattle.orders.specs.Laws.Lists.{All, Any, all_zip}
use Rattle.orders.specs.Laws.Box.{Box, Child, children, Sound, Has}
use Rattle.orders.specs.Laws.Child.{Owes, Fits}
use Rattle.orders.specs.Laws.Exact.{complete, fits}
use Rattle.orders.specs.Laws.Siblings.{Less, less}
use Rattle.orders.specs.Laws.Walk.{info_for, hang, following, grow, first_child, enough, the_tree}
use Rattle.orders.specs.Laws.First.{first_fits, first_enough}
use Rattle.walk.specs.Descent.{ends}

-- ---- one node

abbrev Some : Forest → Type 0
Some none = ⊥
Some (node x below beside) = Unit {0}

orders_above : (x : Info) (below beside : Forest) → Some below → orders (node x below beside) ≡ orders below + orders beside
unfolding orders
orders_above x none beside h = absurd h
orders_above x (node y below later) beside h = refl

orders_last : (x : Info) (beside : Forest) → orders (node x none beside) ≡ suc (orders beside)
unfolding orders
orders_last x beside = refl

ends_none : (J : JobSet) → ends J none ≡ orders none
unfolding ends orders
ends_none J = refl

-- it has something below it just where it has a job
even_node : (J : JobSet) (x : Info) (below beside : Forest) → (x.label.job < J.jobs → Some below) → (J.jobs ≤ x.label.job → below ≡ none)
    → ends J below ≡ orders below → ends J beside ≡ orders beside → ends J (node x below beside) ≡ orders (node x below beside)
unfolding ends
even_node J x below beside some last e r = split x.label.job J.jobs
    (λ (q : x.label.job < J.jobs). omega (arith, if-lt {X = ℕ} x.label.job J.jobs 0 1 q, orders_above x below beside (some q)))
    (λ (q : J.jobs ≤ x.label.job). rw (last q) (omega (arith, if-ge {X = ℕ} x.label.job J.jobs 0 1 q, orders_last x beside)))

-- ---- siblings

record Even (J : JobSet) (below : State → Box → Forest) (x : Child) : Type 0 where
  some : x.state.job < J.jobs → Some (below x.state x.box)
  last : J.jobs ≤ x.state.job → below x.state x.box ≡ none
  even : ends J (below x.state x.box) ≡ orders (below x.state x.box)

hang_even : (J : JobSet) (below : State → Box → Forest) (l : List Child) → All (Even J below) l → ends J (hang below l) ≡ orders (hang below l)
unfolding hang
hang_even J below [] h = ends_none J
hang_even J below (x ∷ xs) h =
    even_node J (info_for x) (below x.state x.box) (hang below xs) h.0.some h.0.last h.0.even (hang_even J below xs h.1)

-- ---- what grows below a box

module _ (J : JobSet) (L : Lawful J) where
  -- where a job runs, a switch can still follow
  some_due : (S : State) (B : Box) → Sound J S B → 0 < potential J S.control
  unfolding potential
  some_due S B O =
      let live = alive_seg J S.control S.job O.alive in
      let own : 0 < due J S.control S.job = unfold due in omega arith in
      omega (arith, one_of_sum (due J S.control) J.jobs S.job O.inside)

  some_hang : (below : State → Box → Forest) (P : Child → Type 0) (l : List Child) → Any P l → Some (hang below l)
  unfolding hang
  some_hang below P [] h = h
  some_hang below P (x ∷ xs) h = tt

  -- a box has a point, and that makes a switch
  some_child : (S : State) (B : Box) (O : Sound J S B) (below : State → Box → Forest) → Some (hang below (children J S B))
  some_child S B O below =
      let p : Point = record { start = B.from; left = B.least } in
      some_hang below (Has J (step J S p)) (children J S B)
      (complete J L S B O p (record { from = omega arith; to = O.ends; low = λ i k h q. omega arith; high = O.order }))

  grow_some : (f : ℕ) (S : State) (B : Box) → Sound J S B → potential J S.control ≤ f → Some (grow J f S B)
  unfolding grow following
  grow_some zero S B O h = absurd (omega (arith, some_due S B O))
  grow_some (suc f) S B O h = rw (if-lt S.job J.jobs (children J S B) [] O.inside) (some_child S B O (grow J f))

  grow_none : (f : ℕ) (S : State) (B : Box) → J.jobs ≤ S.job → grow J f S B ≡ none
  unfolding grow following
  grow_none zero S B h = refl
  grow_none (suc f) S B h = rw (if-ge S.job J.jobs (children J S B) [] h) (unfold hang in refl)

  abbrev Evens : ℕ → Type 0
  Evens f = (S : State) (B : Box) → Owes J S B → potential J S.control ≤ f → ends J (grow J f S B) ≡ orders (grow J f S B)

  even_child : (f : ℕ) → Evens f → (x : Child) → Fits J x → potential J x.state.control ≤ f → Even J (grow J f) x
  even_child f ih x F h = record {
    some = λ q. grow_some f x.state x.box (F.kept q) h;
    last = grow_none f x.state x.box;
    even = ih x.state x.box F.kept h;
  }

  even_step : (f : ℕ) → Evens f → Evens (suc f)
  even_step f ih S B owes h = split S.job J.jobs
      (λ (q : S.job < J.jobs).
      let O : Sound J S B = owes q in
      unfold grow following in rw (if-lt S.job J.jobs (children J S B) [] q) (hang_even J (grow J f) (children J S B)
      (all_zip (Fits J) (Less J L S B O) _ (λ x F l. even_child f ih x F (omega arith)) (children J S B) (fits J L S B O) (less J L S B O))))
      (λ (q : J.jobs ≤ S.job). rw (grow_none (suc f) S B q) (ends_none J))

  grow_even : (f : ℕ) → Evens f
  grow_even zero S B owes h = unfold grow in ends_none J
  grow_even (suc f) S B owes h = even_step f (grow_even f) S B owes h

  pub ends_orders : ends J (the_tree J) ≡ orders (the_tree J)
  unfolding the_tree
  ends_orders = hang_even J (grow J (enough J)) (first_child J ∷ [])
      (even_child (enough J) (grow_even (enough J)) (first_child J) (first_fits J L) (first_enough J L), tt)
