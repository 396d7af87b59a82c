-- The words of a text: a line ends with a newline, its words are separated by white space, and `#` starts a comment.
use Rattle.std.specs.Prelude.{ℕ, suc, ◌<◌, ◌≡◌, List, [], ◌∷◌, ◌++◌, Bool, true, false, cond, not, ◌||◌, drop, eqb}
use Rattle.std.specs.List.{slice_split}
use Rattle.std.specs.Str.{bytes_eq}

-- space, tab and carriage return
abbrev pub is_white : ℕ → Bool
is_white b = eqb b 32 || eqb b 9 || eqb b 13

-- the words of a line end at a newline and at a `#`
abbrev pub is_ending : ℕ → Bool
is_ending b = eqb b 10 || eqb b 35

abbrev pub is_wordly : ℕ → Bool
is_wordly b = not (is_white b || is_ending b)

abbrev pub is_in_line : ℕ → Bool
is_in_line b = not (eqb b 10)

-- a word that is complete; nothing where it has no byte
abbrev pub closed : List ℕ → List (List ℕ)
closed [] = []
closed (x ∷ xs) = (x ∷ xs) ∷ []

-- the words of the line that s starts with, where the bytes w of a word stand before s
unfoldable pub words_from : List ℕ → List ℕ → List (List ℕ)
words_from w [] = closed w
words_from w (x ∷ xs) = cond (is_ending x) (closed w) (cond (is_white x) (closed w ++ words_from [] xs) (words_from (w ++ x ∷ []) xs))

-- the words of the line that s starts with
abbrev pub words_of : List ℕ → List (List ℕ)
words_of s = words_from [] s

-- the first of the words, empty where there is none, and the others
abbrev pub first : List (List ℕ) → List ℕ
first [] = []
first (w ∷ ws) = w

abbrev pub others : List (List ℕ) → List (List ℕ)
others [] = []
others (w ∷ ws) = ws

-- whether there is none
abbrev pub none : List (List ℕ) → Bool
none [] = true
none (w ∷ ws) = false

-- the lines of a text: one more than it has newlines
abbrev pub lines_of : List ℕ → List (List ℕ)
lines_of = slice_split (λ b. eqb b 10)

-- two words are the same
abbrev pub same : List ℕ → List ℕ → Bool
same = bytes_eq

-- how many bytes from the start of s on pass a test
unfoldable pub run : (ℕ → Bool) → List ℕ → ℕ
run test [] = 0
run test (x ∷ xs) = cond (test x) (suc (run test xs)) 0

-- at `end` the first word after `at` is passed, if there is one
pub record Passed (s : List ℕ) (at end : ℕ) : Type 0 where
  pub rest : words_of (drop end s) ≡ others (words_of (drop at s))
  pub further : none (words_of (drop at s)) ≡ false → at < end
