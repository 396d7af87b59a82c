-- The lock names of a text: numbers 0, 1, 2 .. in the order in which they appear first.
use Rattle.std.specs.Prelude.{ℕ, suc, ◌^◌, List, [], ◌∷◌, ◌++◌, Bool, cond, length, ltb}
use Rattle.std.specs.Int.Bits.{bit_or}
use Rattle.draft.specs.Words.{same}

abbrev pub most_locks : ℕ
most_locks = 16

-- the number of a name: how many names there are, where it is new
unfoldable pub number_in : List (List ℕ) → List ℕ → ℕ
number_in [] w = 0
number_in (n ∷ ns) w = cond (same n w) 0 (suc (number_in ns w))

-- the names known with one more
abbrev pub knowing : List (List ℕ) → List ℕ → List (List ℕ)
knowing ns w = cond (ltb (number_in ns w) (length ns)) ns (ns ++ w ∷ [])

-- the names known after these words
unfoldable pub names_with : List (List ℕ) → List (List ℕ) → List (List ℕ)
names_with ns [] = ns
names_with ns (w ∷ ws) = names_with (knowing ns w) ws

-- a number, with the bit of each of these locks set: bit k for lock k
unfoldable pub held_from : List (List ℕ) → ℕ → List (List ℕ) → ℕ
held_from ns held [] = held
held_from ns held (w ∷ ws) = held_from (knowing ns w) (bit_or held (2 ^ number_in ns w)) ws

abbrev pub too_many : List (List ℕ) → List (List ℕ) → Bool
too_many ns ws = ltb most_locks (length (names_with ns ws))
