-- A line read into a draft, and the text's end.
use Rattle.std.specs.Prelude.{ℕ, ◌≡◌, refl, List, [], get_or, Some, None, Result, Ok, Err, MatchResult}
use Rattle.std.proofs.Common.{ap, arith}
use Rattle.std.proofs.Math.ListN.{length}
use borrow.Author.Tests.{eq-eqb, ne_eqb}
use Rattle.draft.specs.Bytes.{bytes_of}
use Rattle.draft.specs.Cause.{cause_number}
use Rattle.draft.specs.Forms.{Outcome, with_names, line_says}
use Rattle.draft.specs.Text.{Draw, refuse, with_line, reading, next_line, read_line, ended, start}
use Rattle.draft.specs.Packing.{line_at}
use Rattle.draft.specs.Known.{known}
use Rattle.draft.specs.Drafts.{Holds, Told, Follows, size}
use Rattle.draft.specs.LastJob.{bare_line}
use Rattle.draft.specs.Laws.Fitting.{line_fits}
use Rattle.draft.specs.Laws.TextLines.{cause_some}
use Rattle.draft.specs.Laws.Drafting.{not_begun, is_begun, bare_refused, bare_not}
use Rattle.draft.specs.declared.cause.Cause.{Cause}
use Rattle.draft.specs.declared.cause.Cause.TheVariants.{SegmentCount}
use Rattle.draft.specs.declared.cause.Refused.{Refused}
use Rattle.draft.specs.declared.draft.Draft.{Draft}
use Rattle.draft.specs.declared.forms.Line.{Line}

-- the draft of no line
pub holds_start : (d : Draft) → d.made.items ≡ [] → length d.lines ≡ 4096 → ((k : ℕ) → get_or d.lines k 0 ≡ 0) → d.line ≡ 0 → d.job ≡ None → known d.names ≡ [] → Holds d start
unfolding line_at bytes_of
holds_start d bytes lines_room zeros line job names = record {
  cause = refl;
  line = line;
  bytes = bytes;
  lines_room = lines_room;
  noted = zeros;
  begun = λ q. refl;
  last = rw job tt;
  names = names;
  few = omega arith;
}

-- a draft that starts to read line n
pub record Turned (d after : Draft) (n : ℕ) : Type 0 where
  pub made : after.made ≡ d.made
  pub lines : after.lines ≡ d.lines
  pub line : after.line ≡ n
  pub job : after.job ≡ d.job

-- after a cause nothing more is read
pub read_over : (d : Draft) (e : Refused) (x : Draw) → Told d (Err e) x → (n : ℕ) (ws : List (List ℕ)) → Told d (Err e) (read_line n ws x)
unfolding read_line
read_over d e x h n ws = rw (ne_eqb x.cause 0 (λ (z : x.cause ≡ 0). omega (arith, cause_some e.cause, h.0, z))) h

module _ (d : Draft) (x : Draw) (h : Holds d x) where
  -- line n says this, and these names are known after it
  module _ (n : ℕ) (ws : List (List ℕ)) (after : List (List ℕ)) where
    pub reads_line : (line : Line) → with_names (Ok line) after ≡ line_says (known d.names) ws → read_line n ws x ≡ with_line n line (reading n after x)
    unfolding read_line
    reads_line line e = rw (eq-eqb x.cause 0 h.cause, ← h.names, ← e)

    pub reads_fault : (cause : Cause) → with_names (Err cause) after ≡ line_says (known d.names) ws → read_line n ws x ≡ refuse (cause_number cause) n (reading n x.names x)
    unfolding read_line
    reads_fault cause e = rw (eq-eqb x.cause 0 h.cause, ← h.names, ← e)

  pub holds_reading : (after : Draft) (n : ℕ) (ws : List (List ℕ)) (line : Line) → with_names (Ok line) (known after.names) ≡ line_says (known d.names) ws → Turned d after n
      → Holds after (reading n (known after.names) x)
  holds_reading after n ws line e t = record {
    cause = h.cause;
    line = t.line;
    bytes = rw t.made h.bytes;
    lines_room = rw t.lines h.lines_room;
    noted = λ k. rw t.lines (h.noted k);
    begun = h.begun;
    last = rw t.job h.last;
    names = refl;
    few = (rw (← e) at (line_fits (known d.names) (rw h.names h.few) ws)).1;
  }

  -- line n is read and says this, and a draft that starts to read it, with the names known after it, holds the lines before it
  pub line_told : (ns : List (List ℕ)) (n : ℕ) (ws : List (List ℕ)) (line : Line) → n ≡ next_line d.line → with_names (Ok line) ns ≡ line_says (known d.names) ws
      → (read_line (next_line d.line) ws x ≡ with_line n line (reading n ns x)) × ((after : Draft) → Turned d after n → known after.names ≡ ns → Holds after (reading n ns x))
  line_told ns n ws line p e = (rw (← p) (reads_line n ws ns line e), λ after t q. rw (← q) (holds_reading after n ws line (rw q e) t))

  -- a step of the code from the draft that starts to read line n, or its refusal
  abbrev Step : (after r : Draft) (n : ℕ) → Result (Unit {0}) Refused → Outcome → Type 0
  Step after r n result (Ok line) = Follows after r result (with_line n line)
  Step after r n result (Err cause) = result ≡ Err (record { cause = cause; line = n })

  pub read_line_lem : (after r : Draft) (result : Result (Unit {0}) Refused) (n : ℕ) (ws : List (List ℕ)) (said : Outcome) → with_names said (known after.names) ≡ line_says (known d.names) ws
      → Turned d after n → Step after r n result said → Told r result (read_line n ws x)
  read_line_lem after r result n ws (Ok line) e t step =
      rw (reads_line n ws (known after.names) line e) (step (reading n (known after.names) x) (holds_reading after n ws line e t))
  read_line_lem after r result n ws (Err cause) e t step = rw (step, reads_fault n ws (known after.names) cause e) (refl, refl)

  -- the text ends
  pub ended_none : size d ≡ 0 → ended x ≡ refuse 10 x.line x
  unfolding ended
  ended_none e = rw (eq-eqb x.cause 0 h.cause, (not_begun d x h 0 e).0)

  pub ended_bare : (line : ℕ) → (size d ≡ 0 → ⊥) → bare_line d.job ≡ Some line → ended x ≡ refuse 7 line x
  unfolding ended
  ended_bare line e b = rw (eq-eqb x.cause 0 h.cause, is_begun d x h 0 e, bare_refused d.job x.done x.last (λ line. refuse 7 line x) x line h.last b)

  pub ended_whole : (size d ≡ 0 → ⊥) → bare_line d.job ≡ None → ended x ≡ x
  unfolding ended
  ended_whole e b = rw (eq-eqb x.cause 0 h.cause, is_begun d x h 0 e, bare_not d.job x.done x.last (λ line. refuse 7 line x) x h.last b)

  pub ended_told : (size d ≡ 0 → ⊥) → (result : Result (Unit {0}) Refused)
      → MatchResult result (λ _. bare_line d.job ≡ None) (λ e. (e.cause ≡ SegmentCount) × (bare_line d.job ≡ Some e.line)) → Told d result (ended x)
  ended_told e (Ok u) b = rw (ended_whole e b) h
  ended_told e (Err r) b = rw (ended_bare r.line e b.1) (ap cause_number b.0, refl)
