-- What is written and counted of a forest: of none, of a node that is left out, of a node with what stands below it, and of siblings after siblings.
use Rattle.std.proofs.Common.{ℕ, ◌+◌, ◌*◌, ◌≤◌, ◌<◌, arith, sym, ap, ap₂, ◌∙◌, List, ◌++◌, append-nil}
use Rattle.std.specs.Prelude.{◌≡◌, refl, length}
use Rattle.std.proofs.Math.Seq.{sets}
use Rattle.kernel.specs.Rules.{JobSet}
use Rattle.kernel.specs.Laws.Tests.{split, iflt, if-lt, if-ge}
use Rattle.kernel.specs.Laws.Step.{State}
use Rattle.orders.specs.Orders.{Info, Forest, none, node, size}
use Rattle.orders.specs.Nodes.{node_words}
use Rattle.orders.specs.Laws.Box.{Box, Child}
use Rattle.orders.specs.Laws.Walk.{hang}
use Rattle.orders.specs.Laws.Words.{words, words_length}
use Rattle.kernel.proofs.Noted.{sets_append}
use Rattle.walk.specs.Descent.{ends, Wrote}
use Rattle.walk.specs.Counts.{Room}
use Rattle.walk.specs.Laws.Forests.{size_append, ends_append, words_append}
use Rattle.walk.specs.declared.counts.Counts.{Counts}

-- a count that stays within its limit
pub still_room : {J : JobSet} {F : Forest} {parent cap : ℕ} {b b' : List ℕ} {c c' : Counts} → Room c cap → Wrote J F parent cap b c b' c' → Room c' cap
still_room r W = record { nodes = omega (arith, W.nodes); orders = W.orders r.orders; most = r.most }

-- a node is one order at most
one_most : (a b : ℕ) → iflt a b 0 1 ≤ 1
one_most a b = split a b (λ (h : a < b). omega (arith, if-lt {X = ℕ} a b 0 1 h)) (λ (h : b ≤ a). omega (arith, if-ge {X = ℕ} a b 0 1 h))

module _ {J : JobSet} {parent cap : ℕ} where
  pub wrote_none : {b : List ℕ} {c : Counts} → Room c cap → Wrote J none parent cap b c b c
  unfolding size words ends
  wrote_none r = record { nodes = omega (arith, r.nodes); orders = λ h. h; full = λ h. (refl, omega arith) }

  -- the limit is reached
  pub wrote_past : {x : Info} {F G : Forest} {b : List ℕ} {c : Counts} → Room c cap → cap ≤ c.nodes → Wrote J (node x F G) parent cap b c b c
  unfolding size
  wrote_past r h = record { nodes = omega (arith, r.nodes); orders = λ h. h; full = λ q. absurd (omega arith) }

  -- a node, counted as an order where it ends a run, and then what stands below it
  pub wrote_node : {x : Info} {F : Forest} {b b' b'' : List ℕ} {c c' c'' : Counts} {last : ℕ} → c.nodes < cap
      → b' ≡ sets b (8 * c.nodes) (node_words J (parent, x)) → iflt x.label.job J.jobs 0 1 ≡ last
      → c'.nodes ≡ c.nodes + 1 → c'.orders ≡ c.orders + last
      → Wrote J F c.nodes cap b' c' b'' c''
      → Wrote J (node x F none) parent cap b c b'' c''
  unfolding size words ends
  wrote_node {x} {F} {b} {b'} {c = c} {c' = c'} h p e en eo W = record {
    nodes = omega (arith, W.nodes);
    orders = λ q. W.orders (omega (arith, one_most x.label.job J.jobs, e));
    full = λ q.
        let (y, z) = W.full (omega arith) in
        let row : List ℕ = node_words J (parent, x) in
        let rest : List ℕ = words J c.nodes (c.nodes + 1) F in
        let i : 8 * c'.nodes ≡ 8 * c.nodes + 8 = omega arith in (
          y ∙ ap₂ (λ (n m : ℕ). sets b' n (words J c.nodes m F)) i en ∙ ap (λ (l : List ℕ). sets l (8 * c.nodes + 8) rest) p
              ∙ sym (sets_append b (8 * c.nodes) row rest)
              ∙ ap (λ (l : List ℕ). sets b (8 * c.nodes) (row ++ l)) (sym (append-nil rest)),
          omega arith,
        );
  }

  -- siblings, and then more siblings
  pub wrote_append : (below : State → Box → Forest) (xs ys : List Child) {b b' b'' : List ℕ} {c c' c'' : Counts}
      → Wrote J (hang below xs) parent cap b c b' c' → Wrote J (hang below ys) parent cap b' c' b'' c''
      → Wrote J (hang below (xs ++ ys)) parent cap b c b'' c''
  wrote_append below xs ys {b} {c = c} {c' = c'} U W =
      let m = size_append J below xs ys in
      record {
        nodes = omega (arith, U.nodes, W.nodes);
        orders = λ h. W.orders (U.orders h);
        full = λ h.
            let e : c'.nodes ≡ c.nodes + size (hang below xs) = omega (arith, U.nodes) in
            let (p, q) = U.full (omega arith) in
            let (r, t) = W.full (omega arith) in
            let first : List ℕ = words J parent c.nodes (hang below xs) in
            let later : List ℕ = words J parent (c.nodes + size (hang below xs)) (hang below ys) in
            let k : 8 * c'.nodes ≡ 8 * c.nodes + length first = omega (arith, words_length J parent c.nodes (hang below xs)) in (
              r ∙ ap₂ (λ (l : List ℕ) (n : ℕ). sets l (8 * c'.nodes) (words J parent n (hang below ys))) p e
                  ∙ ap (λ (n : ℕ). sets (sets b (8 * c.nodes) first) n later) k ∙ sym (sets_append b (8 * c.nodes) first later)
                  ∙ ap (sets b (8 * c.nodes)) (sym (words_append J below parent c.nodes xs ys)),
              omega (arith, ends_append J below xs ys),
            );
      }
