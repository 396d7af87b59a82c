-- What a writer's methods write: `Put` and `Word`, at the end of its text so far.
use Rattle.std.specs.Prelude.{ℕ, ◌≤◌, ◌≡◌, refl, List, [], ◌∷◌, ◌++◌, length}
use Rattle.std.proofs.Common.{arith, ◌∙◌}
use Rattle.lines.specs.Text.{line}
use Rattle.lines.specs.Put.{Put, Word, put_none, put_then, line_word, line_last}
use Rattle.lines.specs.declared.writer.Writer.{Writer}

-- the text stands at the end of the text so far, and the buffer is the same
pub record Writes (before : Writer) (text : List ℕ) (after : Writer) : Type 0 where
  pub put : Put before.out.now before.length text after.out.now after.length
  pub same : after.out.ghost_name ≡ before.out.ghost_name

-- so do a word of at most ten bytes and the byte that ends it
pub record WritesWord (before : Writer) (s : List ℕ) (end : ℕ) (after : Writer) : Type 0 where
  pub word : Word before.out.now before.length s end after.out.now after.length
  pub same : after.out.ghost_name ≡ before.out.ghost_name

-- nothing is written yet
pub writes_none : (a : Writer) → Writes a [] a
writes_none a = record { put = put_none a.out.now a.length; same = refl }

-- one text after the other
pub writes_then : {a b c : Writer} {s t : List ℕ} → Writes a s b → Writes b t c → Writes a (s ++ t) c
writes_then p q = record { put = put_then p.put q.put; same = q.same ∙ p.same }

-- a word, and the byte that ends it
pub writes_word : {a b c : Writer} {s : List ℕ} {end : ℕ} → length s ≤ 10 → Writes a s b → Writes b (end ∷ []) c → WritesWord a s end c
writes_word h p q = record { word = record { put = put_then p.put q.put; short = omega (arith, p.put.place, q.put.place) }; same = q.same ∙ p.same }

-- a word of a line, and the rest of the line
pub line_then : (v : List ℕ) (ws : List (List ℕ)) {a b c : Writer} {w : List ℕ} → WritesWord a w 32 b → Writes b (line (v ∷ ws)) c → Writes a (line (w ∷ v ∷ ws)) c
line_then v ws p q = record { put = line_word v ws p.word q.put; same = q.same ∙ p.same }

-- the last word of a line
pub line_end : {a b : Writer} {w : List ℕ} → WritesWord a w 10 b → Writes a (line (w ∷ [])) b
line_end p = record { put = line_last p.word; same = p.same }
