-- The lines of a text, one after the other.
use Rattle.std.specs.Prelude.{ℕ, suc, ◌+◌, ◌<◌, ◌≤◌, ◌≡◌, refl, Bool, true, false, cond, List, [], ◌∷◌, length, get_or, drop, eqb, Result, Ok, Err}
use Rattle.std.proofs.Common.{arith, sym, ◌∙◌, ap, drop-cons, drop_of_length-le}
use borrow.Author.Tests.{eq-eqb, ne_eqb}
use Rattle.std.specs.Borrow.{Bor}
use Rattle.std.specs.Fn.{CalledAt}
use Rattle.std.specs.Slice.Iter.{split_rest, split_done, split_callee, split_steps}
use Rattle.std.proofs.lemmas.Iterator.{YieldsList}
use Rattle.std.proofs.lemmas.Iterator.Splits.{YieldsList-from_slice_split}
use denote.Param.Members.{Mut}
use Rattle.draft.specs.Words.{is_in_line, words_of, lines_of, run}
use Rattle.draft.specs.Cause.{cause_number}
use Rattle.draft.specs.Forms.{Says, line_says}
use Rattle.draft.specs.Text.{Last, no_job, a_job, Draw, refuse, unless_bare, with_frame, with_job, add_segment, with_segment, with_line, reading, said, start, next_line, read_line, read_lines, ended, draw_of}
use Rattle.draft.specs.Drafts.{Holds, Refuses}
use Rattle.draft.specs.declared.cause.Cause.{Cause}
use Rattle.draft.specs.declared.cause.Cause.TheVariants.{UnknownLine, BadNumber, BadWord, Trailing, FrameMisplaced, SegmentMisplaced, SegmentCount, TooManyLocks, TooLong, Empty, Table}
use Rattle.draft.specs.declared.cause.Refused.{Refused}
use Rattle.draft.specs.declared.draft.Draft.{Draft}
use Rattle.draft.specs.declared.forms.Line.{Line}
use Rattle.draft.specs.declared.forms.Line.TheVariants.{Nothing, Frame, Job, Segment}
use Rattle.table.specs.declared.records.Record.{Record}

-- no cause has the number 0
pub cause_some : (c : Cause) → 0 < cause_number c
cause_some UnknownLine = omega arith
cause_some BadNumber = omega arith
cause_some BadWord = omega arith
cause_some Trailing = omega arith
cause_some FrameMisplaced = omega arith
cause_some SegmentMisplaced = omega arith
cause_some SegmentCount = omega arith
cause_some TooManyLocks = omega arith
cause_some TooLong = omega arith
cause_some Empty = omega arith
cause_some (Table fault) = omega arith

-- after a cause nothing more is read
lines_over : (n : ℕ) (ls : List (List ℕ)) (x : Draw) → (x.cause ≡ 0 → ⊥) → read_lines n ls x ≡ x
unfolding read_lines read_line
lines_over n [] x d = refl
lines_over n (l ∷ ls) x d = rw (ne_eqb x.cause 0 d) (lines_over (next_line n) ls x d)

ended_over : (x : Draw) → (x.cause ≡ 0 → ⊥) → ended x ≡ x
unfolding ended
ended_over x d = rw (ne_eqb x.cause 0 d)

-- ---- a line that is not refused leaves its number

abbrev Kept : ℕ → Draw → Type 0
Kept n x = x.cause ≡ 0 → x.line ≡ n

kept_refused : (n cause m : ℕ) (x : Draw) → 0 < cause → Kept n (refuse cause m x)
kept_refused n cause m x h e = absurd (omega (arith, h, e))

kept_either : (n : ℕ) (b : Bool) (x y : Draw) → Kept n x → Kept n y → Kept n (cond b x y)
kept_either n true x y p q = p
kept_either n false x y p q = q

kept_bare : (n : ℕ) (last : Last) (x y : Draw) → Kept n y → Kept n (unless_bare last (λ line. refuse 7 line x) y)
kept_bare n no_job x y q = q
kept_bare n (a_job line r p []) x y q = kept_refused n 7 line x (omega arith)
kept_bare n (a_job line r p (s ∷ ss)) x y q = q

kept_segment : (n m : ℕ) (r : Record) (x : Draw) (last : Last) → Kept n x → Kept n (add_segment m r x last)
kept_segment n m r x no_job k = kept_refused n 6 m x (omega arith)
kept_segment n m r x (a_job line a p ss) k = kept_either n _ _ _ (kept_refused n 7 m x (omega arith)) (kept_either n _ _ _ (kept_refused n 9 m x (omega arith)) k)

kept_line : (n m : ℕ) (line : Line) (x : Draw) → Kept n x → Kept n (with_line m line x)
unfolding with_line with_frame with_job with_segment
kept_line n m Nothing x k = k
kept_line n m (Frame f) x k = kept_either n _ _ _ k (kept_refused n 5 m x (omega arith))
kept_line n m (Job r p) x k =
    kept_either n _ _ _ (kept_refused n 5 m x (omega arith)) (kept_bare n x.last x _ (kept_either n _ _ _ (kept_refused n 9 m x (omega arith)) k))
kept_line n m (Segment l h held) x k = kept_either n _ _ _ (kept_refused n 5 m x (omega arith)) (kept_segment n m (Record.Segment l h held) x x.last k)

kept_said : (n : ℕ) (s : Result Says Cause) (x : Draw) → Kept n (said n s x)
kept_said n (Ok s) x = kept_line n n s.line (reading n s.names x) (λ e. refl)
kept_said n (Err c) x = kept_refused n (cause_number c) n (reading n x.names x) (cause_some c)

kept_read : (n : ℕ) (ws : List (List ℕ)) (x : Draw) → x.cause ≡ 0 → Kept n (read_line n ws x)
unfolding read_line
kept_read n ws x z = rw (eq-eqb x.cause 0 z) (kept_said n (line_says x.names ws) x)

-- a line ends no earlier than it starts
pub line_inside : (s : List ℕ) (at end : ℕ) → end ≡ at + run is_in_line (drop at s) → at ≤ end
line_inside s at end ends = omega (arith, ends)

-- ---- the loop: k lines are read, and those from there on make up the whole

-- what the loop goes over
pub line_items : {F : Type 0} {i s : _} (g : Mut F (Bor ℕ × Unit {0}) Bool) {f : F} (text : List ℕ) → i ≡ s → split_rest s ≡ text → split_done s ≡ false → split_callee s ≡ f
    → ((x : ℕ) (b : Bool) (q : F) → CalledAt g f x b q → (q ≡ f) × (b ≡ eqb x 10)) → YieldsList (split_steps g) (λ x. x.now) i (lines_of text)
line_items g text e rest done callee h = rw e (YieldsList-from_slice_split g (λ b. eqb b 10) text rest done callee h)

pub record Going (s : List ℕ) (d : Draft) (k : ℕ) : Type 0 where
  pub so_far : Draw
  pub holds : Holds d so_far
  pub to_come : read_lines (next_line d.line) (drop k (lines_of s)) so_far ≡ read_lines 1 (lines_of s) start

module _ (s : List ℕ) (d : Draft) (k : ℕ) (going : Going s d k) where
  module _ (line : List ℕ) (more : k < length (lines_of s)) (here : line ≡ get_or (lines_of s) k line) where
    abbrev next : Draw
    next = read_line (next_line d.line) (words_of line) going.so_far

    one_line : read_lines (next_line (next_line d.line)) (drop (k + 1) (lines_of s)) next ≡ read_lines 1 (lines_of s) start
    unfolding read_lines
    one_line = let e : k + 1 ≡ suc k = omega arith in sym (rw (e, drop-cons (lines_of s) k line more, ← here)) ∙ going.to_come

    pub go_on : (d' : Draft) → Holds d' next → Going s d' (k + 1)
    go_on d' h = record { so_far = next; holds = h; to_come = rw (h.line ∙ kept_read (next_line d.line) (words_of line) going.so_far going.holds.cause h.cause) one_line }

    -- the text ends with this line
    pub ends_here : length (lines_of s) ≤ k + 1 → ended next ≡ draw_of s
    unfolding draw_of read_lines
    ends_here h = ap ended (rw (drop_of_length-le (lines_of s) h) at one_line)

    -- the text is refused at this line
    pub stops : (e : Refused) → Refuses e next → Refuses e (draw_of s)
    unfolding draw_of
    stops e r =
        let some : next.cause ≡ 0 → ⊥ = λ z. omega (arith, cause_some e.cause, r.0, z) in
        rw (← one_line, lines_over (next_line (next_line d.line)) (drop (k + 1) (lines_of s)) next some, ended_over next some) r

  -- the text ends
  pub ends : length (lines_of s) ≤ k → ended going.so_far ≡ draw_of s
  unfolding draw_of read_lines
  ends h = ap ended (rw (drop_of_length-le (lines_of s) h) at going.to_come)
