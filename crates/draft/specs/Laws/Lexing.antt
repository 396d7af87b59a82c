-- The next word of a line, and the words after it.
use Rattle.std.specs.Prelude.{ℕ, zero, suc, ◌+◌, ◌-◌, ◌<◌, ◌≤◌, ◌≡◌, refl, List, [], ◌∷◌, ◌++◌, Bool, true, false, cond, not, ◌||◌, length, take, drop, eqb}
use Rattle.std.proofs.Common.{arith, sym, ◌∙◌, ap, append-nil, length-drop, drop_of_length-le, drop-drop, eqb-true}
use Rattle.std.proofs.Math.Nat.{add-sub_cancel_left}
use Rattle.std.proofs.Math.Seq.{append_snoc}
use Rattle.std.proofs.Math.Dec.{eqb-suc-zero}
use Rattle.draft.specs.Words.{is_white, is_ending, is_wordly, closed, words_from, words_of, first, others, none, run, Passed}
use Rattle.draft.specs.Laws.Runs.{run_fits, never}

-- white space ends no line
white_goes_on : (x : ℕ) → is_white x ≡ true → is_ending x ≡ false
white_goes_on x e = go (eqb x 32) (eqb x 9) (eqb x 13) refl refl refl e
  where
    go : (a b d : Bool) → eqb x 32 ≡ a → eqb x 9 ≡ b → eqb x 13 ≡ d → (a || b || d) ≡ true → is_ending x ≡ false
    go true b d p q r f = rw (eqb-true x 32 p)
    go false true d p q r f = rw (eqb-true x 9 q)
    go false false true p q r f = rw (eqb-true x 13 r)
    go false false false p q r f = cc

-- white space before the words does not matter
skip_white : (s : List ℕ) → words_of s ≡ words_of (drop (run is_white s) s)
unfolding words_from run
skip_white [] = refl
skip_white (x ∷ xs) = go (is_white x) refl (skip_white xs)
  where
    go : (b : Bool) → is_white x ≡ b → words_of xs ≡ words_of (drop (run is_white xs) xs) → words_of (x ∷ xs) ≡ words_of (drop (cond b (suc (run is_white xs)) 0) (x ∷ xs))
    go true e h = rw (white_goes_on x e, e) h
    go false e h = refl

-- a byte that belongs to no word closes the word before it
closes : (w : List ℕ) (x : ℕ) (xs : List ℕ) → is_wordly x ≡ false → words_from w (x ∷ xs) ≡ closed w ++ words_of (x ∷ xs)
unfolding words_from
closes w x xs e = go (is_white x) (is_ending x) e
  where
    go : (a b : Bool) → not (a || b) ≡ false
        → cond b (closed w) (cond a (closed w ++ words_of xs) (words_from (w ++ x ∷ []) xs)) ≡ closed w ++ cond b [] (cond a (words_of xs) (words_from (x ∷ []) xs))
    go a true q = sym (append-nil (closed w))
    go true false q = refl
    go false false q = never true refl q

-- the bytes of a word, as far as they go, are one word
gathered : (w s : List ℕ) → words_from w s ≡ closed (w ++ take (run is_wordly s) s) ++ words_of (drop (run is_wordly s) s)
unfolding words_from run
gathered w [] = rw (append-nil w, append-nil (closed w))
gathered w (x ∷ xs) = go (is_wordly x) refl (gathered (w ++ x ∷ []) xs)
  where
    inside : (a b : Bool) → is_white x ≡ a → is_ending x ≡ b → not (a || b) ≡ true → words_from w (x ∷ xs) ≡ words_from (w ++ x ∷ []) xs
    inside true true p q e = never true refl (sym e)
    inside false true p q e = never true refl (sym e)
    inside true false p q e = never true refl (sym e)
    inside false false p q e = rw (p, q)

    go : (b : Bool) → is_wordly x ≡ b
        → words_from (w ++ x ∷ []) xs ≡ closed ((w ++ x ∷ []) ++ take (run is_wordly xs) xs) ++ words_of (drop (run is_wordly xs) xs)
        → words_from w (x ∷ xs) ≡ closed (w ++ take (cond b (suc (run is_wordly xs)) 0) (x ∷ xs)) ++ words_of (drop (cond b (suc (run is_wordly xs)) 0) (x ∷ xs))
    go true e h = inside (is_white x) (is_ending x) refl refl e ∙ h ∙ ap (λ (l : List ℕ). closed l ++ words_of (drop (run is_wordly xs) xs)) (append_snoc w x (take (run is_wordly xs) xs))
    go false e h = closes w x xs e ∙ ap (λ (l : List ℕ). closed l ++ words_of (x ∷ xs)) (sym (append-nil w))

-- where a run ends, none begins
run_ended : (test : ℕ → Bool) (s : List ℕ) → run test (drop (run test s) s) ≡ 0
unfolding run
run_ended test [] = refl
run_ended test (x ∷ xs) = go (test x) refl (run_ended test xs)
  where
    go : (b : Bool) → test x ≡ b → run test (drop (run test xs) xs) ≡ 0 → run test (drop (cond b (suc (run test xs)) 0) (x ∷ xs)) ≡ 0
    go true e h = h
    go false e h = rw e

-- where neither white space nor a word begins, the line has no word
no_word : (s : List ℕ) → run is_white s ≡ 0 → run is_wordly s ≡ 0 → words_of s ≡ []
unfolding words_from run
no_word [] p q = refl
no_word (x ∷ xs) p q = go (is_white x) (is_ending x) refl refl p q
  where
    go : (a b : Bool) → is_white x ≡ a → is_ending x ≡ b → cond a (suc (run is_white xs)) 0 ≡ 0 → cond (not (a || b)) (suc (run is_wordly xs)) 0 ≡ 0 → words_of (x ∷ xs) ≡ []
    go a true e f p q = rw f
    go true false e f p q = absurd (omega arith)
    go false false e f p q = absurd (omega arith)

-- ---- for the code: past white space t the next word, of k bytes, and what comes after it

first_word : (s : List ℕ) (k : ℕ) → run is_wordly s ≡ suc k → words_of s ≡ take (suc k) s ∷ words_of (drop (suc k) s)
first_word [] k e = absurd (let h = run_fits is_wordly [] in omega arith)
first_word (x ∷ xs) k e = gathered [] (x ∷ xs) ∙ rw e

module _ (s t : List ℕ) (i k : ℕ) (white : i ≡ run is_white s) (word : k ≡ run is_wordly t) (skipped : t ≡ drop i s) where
  same_words : words_of s ≡ words_of t
  same_words = skip_white s ∙ rw (skipped, white)

  pub no_words : k ≡ 0 → words_of s ≡ []
  no_words e = same_words ∙ no_word t (rw (skipped, white) (run_ended is_white s)) (sym word ∙ e)

  pub some_words : 0 < k → words_of s ≡ take k t ∷ words_of (drop k t)
  some_words h = same_words ∙ go k word h
    where
      go : (k : ℕ) → k ≡ run is_wordly t → 0 < k → words_of t ≡ take k t ∷ words_of (drop k t)
      go zero e h = absurd (omega arith)
      go (suc k) e h = first_word t k (sym e)

-- ---- at a place of a text: the next word, and the words after it

-- the next word, whose bytes begin at s, is the first, and the others stand after it
record Split (s : List ℕ) (k : ℕ) : Type 0 where
  one : take k s ≡ first (words_of s)
  more : words_of (drop k s) ≡ others (words_of s)
  empty : eqb (length (first (words_of s))) 0 ≡ none (words_of s)
  further : none (words_of s) ≡ false → 0 < k

split : (s : List ℕ) (k : ℕ) → run is_wordly s ≡ k → run is_white s ≡ 0 → Split s k
split s zero e z =
    let h : words_of s ≡ [] = no_word s z e in
    record { one = rw h; more = rw h; empty = rw h; further = λ f. never (none (words_of s)) (rw h) f }
split [] (suc k) e z = absurd (let h = run_fits is_wordly [] in omega arith)
split (x ∷ xs) (suc k) e z =
    let h : words_of (x ∷ xs) ≡ (x ∷ take k xs) ∷ words_of (drop k xs) = gathered [] (x ∷ xs) ∙ rw e in
    record { one = rw h; more = rw h; empty = rw h (eqb-suc-zero (length (take k xs))); further = λ f. omega arith }

-- white space ends at `start` and the word at `end`
module _ (s : List ℕ) (at start end : ℕ) (white : start ≡ at + run is_white (drop at s)) (word : end ≡ start + run is_wordly (drop start s)) where
  from_start : drop start s ≡ drop (run is_white (drop at s)) (drop at s)
  from_start = rw (white, drop-drop)

  words_same : words_of (drop at s) ≡ words_of (drop start s)
  words_same = rw from_start (skip_white (drop at s))

  parts : Split (drop start s) (run is_wordly (drop start s))
  parts = split (drop start s) _ refl (rw from_start (run_ended is_white (drop at s)))

  pub word_inside : at ≤ length s → end ≤ length s
  word_inside h = omega (arith, white, word, run_fits is_white (drop at s), run_fits is_wordly (drop start s), length-drop at s, length-drop start s)

  pub word_is : take (end - start) (drop start s) ≡ first (words_of (drop at s))
  word_is = rw (word, add-sub_cancel_left, words_same) parts.one

  pub passed : Passed s at end
  passed = record {
    rest = rw (word, ← drop-drop, words_same) parts.more;
    further = λ f. omega (arith, white, word, parts.further (rw words_same at f));
  }

-- past the end of the text there is no word
pub no_text : (s : List ℕ) (at : ℕ) → length s < at → [] ≡ first (words_of (drop at s))
unfolding words_from
no_text s at h = let h' : length s ≤ at = omega arith in rw (drop_of_length-le s h')

pub none_is : (s : List ℕ) → eqb (length (first (words_of s))) 0 ≡ none (words_of s)
none_is s = rw (skip_white s) (split (drop (run is_white s) s) _ refl (run_ended is_white s)).empty

-- a word stands before the end of the text
pub word_before_end : (s : List ℕ) (at : ℕ) → none (words_of (drop at s)) ≡ false → at < length s
unfolding words_from
word_before_end [] zero e = never true refl e
word_before_end [] (suc at) e = never true refl e
word_before_end (x ∷ xs) zero e = omega arith
word_before_end (x ∷ xs) (suc at) e = let h = word_before_end xs at e in omega arith
