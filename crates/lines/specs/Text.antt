-- The text of the listing: paper 01, 'Listing program'. A text is the list of its bytes.
use Rattle.std.specs.Prelude.{ℕ, zero, suc, ◌+◌, ◌*◌, ◌/◌, ◌%◌, cond, List, [], ◌∷◌, ◌++◌, get_or, ltb, eqb}
use Prim.Native.Char.{code}
use Prim.Native.String.{String}
use Prim.Native.String as Quoted
use Rattle.lines.specs.declared.row.Row.{Row}

-- the bytes of a quoted ASCII text
abbrev pub bytes : String → List ℕ
bytes Quoted.[] = []
bytes (Quoted.◌∷◌ c s) = code c ∷ bytes s

-- the byte of a digit: 48 is "0"
abbrev pub digit : ℕ → ℕ
digit d = 48 + d

-- the digits of n, the most significant first; the fuel is any number that is not below n
unfoldable pub digits : (fuel n : ℕ) → List ℕ
digits zero n = digit n ∷ []
digits (suc f) n =
    let more : List ℕ = digits f (n / 10) ++ digit (n % 10) ∷ [] in
    cond (ltb n 10) (digit n ∷ []) more

-- the numeral of n: `decimal_right` of specs/Digits.antt says so in plain terms
unfoldable pub decimal : ℕ → List ℕ
decimal n = digits n n

-- a number as the listing shows it: `-` for 4,294,967,295, which stands where there is none
unfoldable pub shown : ℕ → List ℕ
shown n = cond (eqb n 4294967295) (bytes "-") (decimal n)

-- the name of a kind, by its number; a tree has no other number here
unfoldable pub kind_word : ℕ → List ℕ
kind_word k =
    cond (eqb k 0) (bytes "first")
    (cond (eqb k 1) (bytes "end")
    (cond (eqb k 2) (bytes "step")
    (cond (eqb k 3) (bytes "cut") (decimal k))))

-- a line of words: a space between them, a newline at the end
unfoldable pub line : List (List ℕ) → List ℕ
line [] = bytes "\n"
line (w ∷ []) = w ++ bytes "\n"
line (w ∷ v ∷ ws) = w ++ bytes " " ++ line (v ∷ ws)

-- node i, of the tree's words, eight a node
abbrev pub row_at : List ℕ → ℕ → Row
row_at words i = record {
  parent = get_or words (8 * i) 0;
  kind = get_or words (8 * i + 1) 0;
  job = get_or words (8 * i + 2) 0;
  segment = get_or words (8 * i + 3) 0;
  earliest_leaving = get_or words (8 * i + 4) 0;
  latest_leaving = get_or words (8 * i + 5) 0;
  earliest_start = get_or words (8 * i + 6) 0;
  latest_start = get_or words (8 * i + 7) 0;
}

-- its earliest and latest leaving, earliest and latest start
abbrev pub tick_words : Row → List (List ℕ)
tick_words row = shown row.earliest_leaving ∷ shown row.latest_leaving ∷ shown row.earliest_start ∷ shown row.latest_start ∷ []

unfoldable pub node_line : ℕ → Row → List ℕ
node_line number row = line (decimal number ∷ shown row.parent ∷ kind_word row.kind ∷ shown row.job ∷ shown row.segment ∷ tick_words row)

-- the lines of nodes 0 .. n - 1
unfoldable pub node_lines : ℕ → List ℕ → List ℕ
node_lines zero words = []
node_lines (suc n) words = node_lines n words ++ node_line n (row_at words n)

unfoldable pub head_line : (nodes orders : ℕ) → List ℕ
head_line nodes orders = line (bytes "nodes" ∷ decimal nodes ∷ bytes "orders" ∷ decimal orders ∷ [])

unfoldable pub refused_line : ℕ → List ℕ
refused_line refusal = line (bytes "refused" ∷ decimal refusal ∷ [])

-- the whole listing, for what the tree answers and its words
unfoldable pub listing_of : (refusal nodes orders : ℕ) → List ℕ → List ℕ
listing_of refusal nodes orders words = cond (eqb refusal 0) (head_line nodes orders ++ node_lines nodes words) (refused_line refusal)
