-- What grows below a box, and siblings in a row: how many nodes, which words, and how many ends of runs two rows have together.
use Rattle.std.proofs.Common.{ℕ, zero, suc, ◌+◌, ◌-◌, ◌≤◌, ◌<◌, arith, refl, sym, ap, ◌∙◌, List, [], ◌∷◌, ◌++◌, append_assoc}
use Rattle.std.specs.Prelude.{◌≡◌}
use Rattle.kernel.specs.Rules.{JobSet}
use Rattle.kernel.specs.Laws.Tests.{if-lt, if-ge}
use Rattle.kernel.specs.Laws.Step.{State}
use Rattle.orders.specs.Orders.{Forest, none, node, size}
use Rattle.orders.specs.Nodes.{node_words}
use Rattle.orders.specs.Laws.Box.{Box, Child, leaves, cuts, children}
use Rattle.orders.specs.Laws.Walk.{hang, info_for, following, grow}
use Rattle.orders.specs.Laws.Words.{words}
use Rattle.walk.specs.Descent.{ends}

module _ (J : JobSet) (below : State → Box → Forest) where
  pub size_append : (xs ys : List Child) → size (hang below (xs ++ ys)) ≡ size (hang below xs) + size (hang below ys)
  unfolding hang size
  size_append [] ys = omega arith
  size_append (x ∷ xs) ys = omega (arith, size_append xs ys)

  pub ends_append : (xs ys : List Child) → ends J (hang below (xs ++ ys)) ≡ ends J (hang below xs) + ends J (hang below ys)
  unfolding hang ends
  ends_append [] ys = omega arith
  ends_append (x ∷ xs) ys = omega (arith, ends_append xs ys)

  pub words_append : (parent at : ℕ) (xs ys : List Child)
      → words J parent at (hang below (xs ++ ys)) ≡ words J parent at (hang below xs) ++ words J parent (at + size (hang below xs)) (hang below ys)
  unfolding hang words size
  words_append parent at [] ys = let e : at + 0 ≡ at = omega arith in rw e
  words_append parent at (x ∷ xs) ys =
      let n : ℕ = size (below x.state x.box) in
      let first : List ℕ = words J at (at + 1) (below x.state x.box) in
      let later : List ℕ = words J parent (at + 1 + n) (hang below xs) in
      let e : at + 1 + n + size (hang below xs) ≡ at + suc (n + size (hang below xs)) = omega arith in
      ap (λ l. node_words J (parent, info_for x) ++ l)
      (ap (λ l. first ++ l) (words_append parent (at + 1 + n) xs ys ∙ ap (λ i. later ++ words J parent i (hang below ys)) e) ∙ sym (append_assoc first later _))

-- ---- what grows

pub hang_none : (below : State → Box → Forest) → hang below [] ≡ none
unfolding hang
hang_none below = refl

pub hang_one : (below : State → Box → Forest) (x : Child) → hang below (x ∷ []) ≡ node (info_for x) (below x.state x.box) none
unfolding hang
hang_one below x = refl

module _ (J : JobSet) (S : State) (B : Box) where
  pub grow_zero : (f : ℕ) → f ≡ 0 → grow J f S B ≡ none
  unfolding grow
  grow_zero f e = rw e

  -- where no job runs, nothing
  pub grow_idle : (f : ℕ) → J.jobs ≤ S.job → grow J f S B ≡ none
  unfolding grow following hang
  grow_idle zero h = refl
  grow_idle (suc f) h = rw (if-ge S.job J.jobs (children J S B) [] h)

  pub grow_some : (f : ℕ) → 0 < f → S.job < J.jobs → grow J f S B ≡ hang (grow J (f - 1)) (leaves J S B ++ cuts J S B)
  unfolding grow following children
  grow_some zero z h = absurd (omega arith)
  grow_some (suc f) z h = let e : suc f - 1 ≡ f = omega arith in rw (e, if-lt S.job J.jobs (children J S B) [] h)
