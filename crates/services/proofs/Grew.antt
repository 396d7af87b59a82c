-- The tree that the walk writes is the tree of all orders, and the only one.
use Rattle.std.proofs.Common.{◌≡◌, ℕ, ◌<◌, ◌≤◌, List, [], Ok, Option, ok_or, ap, ◌∙◌}
use Rattle.std.proofs.Math.Seq.{sets}
use Rattle.kernel.specs.Rules.{JobSet}
use Rattle.kernel.specs.Held.{set_of}
use Rattle.kernel.specs.Laws.Control.{Lawful}
use Rattle.kernel.specs.Laws.Ending.{last_end, all_in_frame}
use Rattle.kernel.specs.Laws.Steps.{run_steps}
use Rattle.orders.specs.Orders.{Forest, size, TreeOf}
use Rattle.orders.specs.Nodes.{tree_words, orders}
use Rattle.orders.specs.Laws.Walk.{the_tree}
use Rattle.orders.specs.Laws.Right.{the_tree_lem}
use Rattle.orders.specs.Laws.Unique.{one_tree}
use Rattle.walk.specs.Tree.{Walked}
use Rattle.walk.specs.declared.counts.Counts.{Counts}
use Rattle.services.specs.Tree.{room_in, Trees}
use Rattle.services.specs.declared.runnable.Runnable.{Runnable as Opened}
use Rattle.services.specs.declared.refusal.Refusal.TheVariants.{Room}

-- where every run ends in the frame, the walk's tree is right
pub tree_right : (J : JobSet) → Lawful J → last_end J ≤ J.frame → TreeOf J (the_tree J)
tree_right J L h = the_tree_lem J L (λ time W f q. run_steps J L time W (all_in_frame J L h time W) f q)

module _ (s : Opened) (before after : List ℕ) (r : Option Counts) (W : Walked (set_of s.set.jobs) before after r) where
  abbrev J : JobSet
  J = set_of s.set.jobs

  right : TreeOf J (the_tree J)
  right = tree_right J s.set.loaded.lawful s.in_frame

  the_only : (F : Forest) → TreeOf J F → the_tree J ≡ F
  the_only F R = one_tree J [] (the_tree J) F right R

  -- as the code answers
  pub walk_draws : Trees before after (ok_or r Room) J
  walk_draws = record {
    large = λ F R h.
        let q : room_in before < size (the_tree J) = rw (the_only F R) h in
        let (e, z) = W.large q in
        (rw e (λ i. 7), z);
    done = λ F R h.
        let q : size (the_tree J) ≤ room_in before = rw (the_only F R) h in
        let (e, z) = W.whole q in (
          ap (λ (x : Option Counts). ok_or x Room) e ∙ ap (λ (G : Forest). Ok (record { nodes = size G; orders = orders G })) (the_only F R),
          z ∙ ap (λ (G : Forest). sets before 0 (tree_words J G)) (the_only F R),
        );
  }
