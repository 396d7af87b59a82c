-- What `listing` promises, from the texts that were written.
use Prim.Native.Nat.{ℕ, ◌+◌, ◌*◌, ◌^◌, ◌≤◌, ◌<◌}
use native.Mathlib.Omega.{arith}
use native.Mathlib.Numerals.{add-one}
use mathlib.Core.Path.{◌≡◌}
use mathlib.Core.List.{List}
use lib.ListN.{get_or}
use mir.Val.{Fits}
use mir.Syntax.{w32}
use borrow.Author.Tests.{eq-eqb, ne_eqb}
use Rattle.lines.specs.declared.writer.Writer.{Writer}
use Rattle.lines.specs.Text.{row_at, node_line, node_lines, head_line, refused_line, listing_of}
use Rattle.lines.specs.Lengths.{Bits32, head_short, nodes_short}
use Rattle.lines.specs.Writer.{Writes, writes_none, writes_then}

-- no line yet
pub no_lines : (words : List ℕ) (a : Writer) → Writes a (node_lines 0 words) a
unfolding node_lines
no_lines words a = writes_none a

-- one line more
pub line_more : (words : List ℕ) (n : ℕ) {a b c : Writer} → Writes a (node_lines n words) b → Writes b (node_line n (row_at words n)) c → Writes a (node_lines (n + 1) words) c
unfolding node_lines
line_more words n p q = rw (add-one n) (writes_then p q)

-- what the types of the arguments tell
pub known : {refusal nodes orders : ℕ} {words : List ℕ} → Fits w32 refusal → Fits w32 nodes → Fits w32 orders → ((i : ℕ) → Fits w32 (get_or words i 0))
    → Bits32 refusal nodes orders words
known r n o w = record { in_refusal = r.fits; in_nodes = n.fits; in_orders = o.fits; in_words = λ (i : ℕ). (w i).fits }

module _ {refusal nodes orders : ℕ} {words : List ℕ} (B : Bits32 refusal nodes orders words) where
  -- there is room for one line more
  pub line_fits : {a b c : Writer} (n : ℕ) → n < nodes → a.length + 100 * (nodes + 1) < 2 ^ 64 → Writes a (head_line nodes orders) b → Writes b (node_lines n words) c
      → c.length + 99 < 2 ^ 64
  line_fits n h k f g = omega (arith, f.put.place, g.put.place, head_short B, nodes_short B n (omega arith))

  -- the line of a refusal is all
  pub all_refused : {a b : Writer} → (refusal ≡ 0 → ⊥) → Writes a (refused_line refusal) b → Writes a (listing_of refusal nodes orders words) b
  unfolding listing_of
  all_refused h f = rw (ne_eqb refusal 0 h) f

  -- and so are the head line and the lines of all nodes
  pub all_nodes : {a b c : Writer} (n : ℕ) → refusal ≡ 0 → n ≤ nodes → nodes ≤ n → Writes a (head_line nodes orders) b → Writes b (node_lines n words) c
      → Writes a (listing_of refusal nodes orders words) c
  unfolding listing_of
  all_nodes n z h l f g =
      let e : n ≡ nodes = omega arith in
      rw (eq-eqb refusal 0 z) (writes_then f (rw e at g))
