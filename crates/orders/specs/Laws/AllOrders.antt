-- All that the tree of all orders is to its reader; and where every run ends in the frame, the walk's tree is it, whole.
use Rattle.std.specs.Prelude.{ℕ, ◌+◌, ◌≤◌, ◌≡◌, refl, ◌↔◌, List, [], ◌∷◌, ◌++◌, map, length}
use Rattle.std.proofs.Common.{sym, ap, ap₂, ◌∙◌, map-id, append_assoc}
use Rattle.std.proofs.Math.Path.{fun_ext}
use Rattle.std.proofs.lemmas.List.{map-append}
use Rattle.std.proofs.lemmas.Simd.{map-map}
use Rattle.kernel.specs.Rules.{JobSet}
use Rattle.kernel.specs.Jobs.{sum}
use Rattle.kernel.specs.Laws.Control.{Lawful}
use Rattle.kernel.specs.Laws.Ending.{last_end, all_in_frame}
use Rattle.kernel.specs.Laws.Steps.{run_steps}
use Rattle.orders.specs.Orders.{Label, Forest, none, node, size, TreeOf}
use Rattle.orders.specs.Nodes.{orders}
use Rattle.orders.specs.Leaves.{leaves_from, leaves}
use Rattle.orders.specs.Laws.Lists.{All}
use Rattle.orders.specs.Laws.Unique.{one_tree}
use Rattle.orders.specs.Laws.Ending.{EveryRunEnds}
use Rattle.orders.specs.Laws.Paths.{Order, Begins, down_to, ways, paths, Listed, Once}
use Rattle.orders.specs.Laws.Paths as laws
use Rattle.orders.specs.Laws.Walk.{the_tree}
use Rattle.orders.specs.Laws.Right.{the_tree_lem}
use Rattle.orders.specs.Laws.Depth.{ways_short}

-- F is the tree of all orders, whole
pub record AllOrders (J : JobSet) (F : Forest) : Type 0 where
  -- below each beginning stand exactly the switches that may follow it, in the stated sequence, each with exactly the ticks at which some run that has
  -- followed the path makes it, and starts what it names
  pub tree : TreeOf J F
  -- there is no other tree
  pub only : (G : Forest) → TreeOf J G → F ≡ G
  -- the paths from root to leaf are exactly the orders of runs, each once, and as many as the orders returned
  pub are_orders : (xs : List Label) → Listed xs (paths F) ↔ Order J xs
  pub orders_once : Once (paths F)
  pub orders_count : length (paths F) ≡ orders F
  -- the nodes are exactly the beginnings of orders, of one switch or more, each once, and as many as the nodes returned
  pub are_beginnings : (xs : List Label) → Listed xs (ways F) ↔ (Begins J xs × (xs ≡ [] → ⊥))
  pub beginnings_once : Once (ways F)
  pub beginnings_count : length (ways F) ≡ size F
  -- the path of leaf number k is the k-th
  pub leaf_paths : map (λ l. l.path) (leaves F) ≡ paths F
  -- no path has more nodes than segments plus jobs
  pub short : All (λ xs. length xs ≤ sum J.segments J.jobs + J.jobs) (ways F)

-- below a path c the leaves have the paths that go on from it, in the same sequence
leaves_below : (F : Forest) (at : ℕ) (c : List Label) → map (λ l. l.path) (leaves_from at c F) ≡ map (λ xs. c ++ xs) (paths F)
unfolding leaves_from down_to
leaves_below none at c = refl
leaves_below (node x none beside) at c = ap (λ l. (c ++ x.label ∷ []) ∷ l) (leaves_below beside (at + 1) c)
leaves_below (node x (node y below later) beside) at c =
    let ps : List (List Label) = paths (node y below later) in
    map-append (λ l. l.path) (leaves_from (at + 1) (c ++ x.label ∷ []) (node y below later)) _
    ∙ ap₂ (λ l m. l ++ m)
    (leaves_below (node y below later) (at + 1) (c ++ x.label ∷ []) ∙ ap (λ f. map f ps) (fun_ext (λ xs. append_assoc c (x.label ∷ []) xs))
    ∙ sym (map-map (λ xs. c ++ xs) (λ ys. x.label ∷ ys) ps))
    (leaves_below beside (at + 1 + size (node y below later)) c)
    ∙ sym (map-append (λ xs. c ++ xs) (map (λ ys. x.label ∷ ys) ps) (paths beside))

pub leaf_paths : (F : Forest) → map (λ l. l.path) (leaves F) ≡ paths F
leaf_paths F = leaves_below F 0 [] ∙ map-id (paths F)

module _ (J : JobSet) (L : Lawful J) (timely : last_end J ≤ J.frame) where
  every_run_ends : EveryRunEnds J
  every_run_ends = all_in_frame J L timely

  right : TreeOf J (the_tree J)
  right = the_tree_lem J L (λ time W f q. run_steps J L time W (every_run_ends time W) f q)

  pub all_orders : AllOrders J (the_tree J)
  all_orders = record {
    tree = right;
    only = λ G R. one_tree J [] (the_tree J) G right R;
    are_orders = laws.orders_are_paths J L every_run_ends (the_tree J) right;
    orders_once = laws.paths_once J (the_tree J) right;
    orders_count = laws.paths_count (the_tree J);
    are_beginnings = laws.beginnings_are_ways J (the_tree J) right;
    beginnings_once = laws.ways_once J (the_tree J) right;
    beginnings_count = laws.ways_count (the_tree J);
    leaf_paths = leaf_paths (the_tree J);
    short = ways_short J L;
  }
