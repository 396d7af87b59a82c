-- The words of a tree node by node, as a walk down and across writes them.
use Rattle.std.specs.Prelude.{ℕ, ◌+◌, ◌*◌, ◌≡◌, length}
use Rattle.std.proofs.Common.{arith, ◌∙◌}
use Rattle.std.proofs.Math.Path.{refl, ap, ap₂}
use mathlib.Core.List.{List, [], ◌∷◌, ◌++◌, flat_map, append_assoc}
use Rattle.std.proofs.Math.ListN.{length-append}
use Rattle.kernel.specs.Rules.{JobSet}
use Rattle.orders.specs.Orders.{Forest, none, node, size, numbered}
use Rattle.orders.specs.Nodes.{node_words, tree_words}
use Rattle.kernel.specs.Log.{nothing}

flat_map_append : {A B : Type 0} (f : A → List B) (l m : List A) → flat_map f (l ++ m) ≡ flat_map f l ++ flat_map f m
unfolding flat_map
flat_map_append f [] m = refl
flat_map_append f (x ∷ l) m = ap (λ r. f x ++ r) (flat_map_append f l m) ∙ rw append_assoc

module _ (J : JobSet) where
  -- the words of siblings, the first of them numbered `at`, with what stands below them
  unfoldable pub words : (parent at : ℕ) → Forest → List ℕ
  words parent at none = []
  words parent at (node x below beside) = node_words J (parent, x) ++ (words at (at + 1) below ++ words parent (at + 1 + size below) beside)

  pub words_numbered : (parent at : ℕ) (F : Forest) → flat_map (node_words J) (numbered parent at F) ≡ words parent at F
  unfolding words numbered flat_map
  words_numbered parent at none = refl
  words_numbered parent at (node x below beside) = ap (λ l. node_words J (parent, x) ++ l)
      (flat_map_append (node_words J) (numbered at (at + 1) below) (numbered parent (at + 1 + size below) beside)
      ∙ ap₂ (λ l m. l ++ m) (words_numbered at (at + 1) below) (words_numbered parent (at + 1 + size below) beside))

  pub tree_words_lem : (F : Forest) → tree_words J F ≡ words nothing 0 F
  tree_words_lem F = words_numbered nothing 0 F

  pub words_length : (parent at : ℕ) (F : Forest) → length (words parent at F) ≡ 8 * size F
  unfolding words size
  words_length parent at none = refl
  words_length parent at (node x below beside) =
      simp length-append (omega (arith, words_length at (at + 1) below, words_length parent (at + 1 + size below) beside))

  pub tree_length : (F : Forest) → length (tree_words J F) ≡ 8 * size F
  tree_length F = ap length (tree_words_lem F) ∙ words_length nothing 0 F
