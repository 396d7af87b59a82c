-- The numbers of a text: decimal digits only.
use Rattle.std.specs.Prelude.{ℕ, ◌+◌, ◌*◌, ◌-◌, List, [], ◌∷◌, Bool, true, cond, ◌&&◌, leb, Option, Some, None}

abbrev pub is_digit : ℕ → Bool
is_digit b = leb 48 b && leb b 57

unfoldable pub all_digits : List ℕ → Bool
all_digits [] = true
all_digits (x ∷ xs) = is_digit x && all_digits xs

-- the number that digits make, where v stands before them
unfoldable pub value_from : ℕ → List ℕ → ℕ
value_from v [] = v
value_from v (x ∷ xs) = value_from (10 * v + (x - 48)) xs

-- this number, where it is one and not above the limit
abbrev pub within : ℕ → Bool → ℕ → Option ℕ
within most digits v = cond (digits && leb v most) (Some v) None

unfoldable pub number_from : ℕ → ℕ → List ℕ → Option ℕ
number_from most v w = within most (all_digits w) (value_from v w)

-- the number that a word is; no number where the word is missing
unfoldable pub number_of : ℕ → List ℕ → Option ℕ
number_of most [] = None
number_of most (x ∷ xs) = number_from most 0 (x ∷ xs)
