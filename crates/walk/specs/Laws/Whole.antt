-- The tree that is written, where there is room for the whole of it.
use Rattle.kernel.specs.declared.jobs.Jobs.{Jobs}
use Rattle.std.specs.Prelude.{ℕ, ◌+◌, ◌≤◌, ◌<◌, ◌≡◌, refl, Some, None, List, length}
use Rattle.std.proofs.Common.{arith, sym, ap, ◌∙◌}
use Rattle.std.proofs.lemmas.List.Edits.{sets}
use Rattle.kernel.specs.Rules.{JobSet}
use Rattle.kernel.specs.Held.{set_of, Loaded}
use Rattle.orders.specs.Orders.{Forest, size}
use Rattle.orders.specs.Nodes.{orders}
use Rattle.orders.specs.Laws.Walk.{the_tree}
use Rattle.orders.specs.Laws.Words.{tree_words_lem}
use Rattle.walk.specs.Tree.{room_of, Passed, Walked}
use Rattle.walk.specs.Laws.Ends.{ends_orders}
use Rattle.walk.specs.declared.counts.Counts.{Counts}

module _ (w : Jobs) (L : Loaded w) (words : List ℕ) (room : ℕ) (is : room ≡ room_of (length words))
    (scrap scrap' : List ℕ) (seen : Counts) (P : Passed w (room + 1) scrap scrap' seen) where
  abbrev J : JobSet
  J = set_of w

  abbrev tree : Forest
  tree = the_tree J

  -- more nodes were counted than there is room for
  pub walked_large : room < seen.nodes → Walked J words words None
  walked_large h = record { whole = λ q. absurd (omega (arith, P.nodes)); large = λ q. (refl, refl) }

  -- there is room for all
  pub walked_whole : seen.nodes ≤ room → (words' : List ℕ) (all : Counts) → Passed w (room + 1) words words' all
      → Walked J words words' (Some all)
  walked_whole h words' all Q =
      let fits : size tree ≤ room = omega (arith, P.nodes) in
      let (written, ended) = Q.full (omega arith) in
      let nodes : all.nodes ≡ size tree = omega (arith, Q.nodes) in
      let paths : all.orders ≡ orders tree = omega (arith, ends_orders J L.lawful) in
      record {
        whole = λ q. ((λ i. Some (record { nodes = nodes i; orders = paths i })), written ∙ ap (sets words 0) (sym (tree_words_lem J tree)));
        large = λ q. absurd (omega arith);
      }
