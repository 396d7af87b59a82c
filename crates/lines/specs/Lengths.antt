-- How long the listing of a tree of 32-bit words can be.
use Prim.Native.Nat.{ℕ, zero, suc, ◌+◌, ◌*◌, ◌≤◌, ◌<◌}
use native.Mathlib.Omega.{arith}
use Rattle.std.specs.Prelude.{Bool, cond, List, [], ◌∷◌, ◌++◌, get_or, eqb}
use Rattle.std.proofs.Math.Bool.{true, false}
use Rattle.std.proofs.Math.ListN.{length, length-append}
use Rattle.lines.specs.Text.{bytes, decimal, shown, kind_word, line, row_at, node_line, node_lines, head_line, refused_line, listing_of}
use Rattle.lines.specs.Digits.{decimal_short}

-- every number of the listing has 32 bits
pub record Bits32 (refusal nodes orders : ℕ) (words : List ℕ) : Type 0 where
  pub in_refusal : refusal < 4294967296
  pub in_nodes : nodes < 4294967296
  pub in_orders : orders < 4294967296
  pub in_words : (i : ℕ) → get_or words i 0 < 4294967296

-- of two short texts either one is short
either_short : (b : Bool) (s t : List ℕ) → length s ≤ 10 → length t ≤ 10 → length (cond b s t) ≤ 10
either_short true s t p q = p
either_short false s t p q = q

-- a number as it is shown, and the name of a kind
shown_short : (n : ℕ) → n < 4294967296 → length (shown n) ≤ 10
unfolding shown
shown_short n h = either_short (eqb n 4294967295) (bytes "-") (decimal n) (omega arith) (decimal_short n h)

kind_short : (k : ℕ) → k < 4294967296 → length (kind_word k) ≤ 10
unfolding kind_word
kind_short k h =
    either_short (eqb k 0) _ _ (omega arith)
    (either_short (eqb k 1) _ _ (omega arith)
    (either_short (eqb k 2) _ _ (omega arith)
    (either_short (eqb k 3) _ _ (omega arith) (decimal_short k h))))

-- words of ten bytes at most
abbrev Short : List (List ℕ) → Type 0
Short [] = Unit {0}
Short (w ∷ ws) = (length w ≤ 10) × Short ws

-- a line of them: each with the byte that ends it
line_short : (w : List ℕ) (ws : List (List ℕ)) → Short (w ∷ ws) → length (line (w ∷ ws)) ≤ 11 * length (w ∷ ws)
unfolding line
line_short w [] p = omega (arith, p.0, length-append w (bytes "\n"))
line_short w (v ∷ ws) p = omega (arith, p.0, line_short v ws p.1, length-append w (bytes " "), length-append (w ++ bytes " ") (line (v ∷ ws)))

module _ {refusal nodes orders : ℕ} {words : List ℕ} (B : Bits32 refusal nodes orders words) where
  -- the head line, and the line of a refusal
  pub head_short : length (head_line nodes orders) ≤ 44
  unfolding head_line
  head_short = line_short _ _ (omega arith, (decimal_short nodes B.in_nodes, (omega arith, (decimal_short orders B.in_orders, tt))))

  refused_short : length (refused_line refusal) ≤ 22
  unfolding refused_line
  refused_short = line_short _ _ (omega arith, (decimal_short refusal B.in_refusal, tt))

  -- one number of a node
  column_short : (i : ℕ) → length (shown (get_or words i 0)) ≤ 10
  column_short i = shown_short (get_or words i 0) (B.in_words i)

  -- the line of a node
  node_short : (i : ℕ) → i < nodes → length (node_line i (row_at words i)) ≤ 99
  unfolding node_line
  node_short i h =
      line_short _ _
      (decimal_short i (omega (arith, B.in_nodes)), (column_short _, (kind_short _ (B.in_words _), (column_short _, (column_short _, (column_short _, (column_short _, (column_short _, (column_short _, tt)))))))))

  -- the lines of the first n nodes
  pub nodes_short : (n : ℕ) → n ≤ nodes → length (node_lines n words) ≤ 99 * n
  unfolding node_lines
  nodes_short zero h = omega arith
  nodes_short (suc n) h = omega (arith, length-append (node_lines n words) (node_line n (row_at words n)), nodes_short n (omega arith), node_short n h)

  -- so a buffer of 204,900 bytes holds the listing of 2,048 nodes
  pub listing_short : length (listing_of refusal nodes orders words) ≤ 100 * (nodes + 1)
  unfolding listing_of
  listing_short = go (eqb refusal 0)
    where
      go : (b : Bool) → length (cond b (head_line nodes orders ++ node_lines nodes words) (refused_line refusal)) ≤ 100 * (nodes + 1)
      go true = omega (arith, length-append (head_line nodes orders) (node_lines nodes words), head_short, nodes_short nodes (omega arith))
      go false = omega (arith, refused_short)
