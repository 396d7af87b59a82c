-- Texts written out: the listing that paper 01 shows, and numbers.
use Rattle.std.specs.Prelude.{ℕ, ◌≡◌, refl, List, [], ◌∷◌}
use Rattle.lines.specs.Text.{bytes, digits, decimal, shown, kind_word, line, node_line, node_lines, head_line, refused_line, listing_of}

-- the words of sample table 4, six nodes
words : List ℕ
words =
    4294967295 ∷ 0 ∷ 0 ∷ 0 ∷ 0 ∷ 0 ∷ 0 ∷ 0
    ∷ 0 ∷ 1 ∷ 1 ∷ 0 ∷ 2 ∷ 3 ∷ 3 ∷ 3
    ∷ 1 ∷ 1 ∷ 4294967295 ∷ 4294967295 ∷ 4 ∷ 4 ∷ 4 ∷ 4
    ∷ 0 ∷ 3 ∷ 1 ∷ 0 ∷ 3 ∷ 3 ∷ 3 ∷ 3
    ∷ 3 ∷ 1 ∷ 0 ∷ 0 ∷ 4 ∷ 4 ∷ 4 ∷ 4
    ∷ 4 ∷ 1 ∷ 4294967295 ∷ 4294967295 ∷ 5 ∷ 5 ∷ 5 ∷ 5
    ∷ []

-- the listing of paper 01
sample_listing : listing_of 0 6 2 words
    ≡ bytes "nodes 6 orders 2\n0 - first 0 0 0 0 0 0\n1 0 end 1 0 2 3 3 3\n2 1 end - - 4 4 4 4\n3 0 cut 1 0 3 3 3 3\n4 3 end 0 0 4 4 4 4\n5 4 end - - 5 5 5 5\n"
unfolding words digits decimal shown kind_word line node_line node_lines head_line listing_of
sample_listing = refl

-- a refusal
sample_refusal : listing_of 5 0 0 [] ≡ bytes "refused 5\n"
unfolding digits decimal line refused_line listing_of
sample_refusal = refl

-- the largest 32-bit number, and the one below it
none_shown : shown 4294967295 ≡ bytes "-"
unfolding shown
none_shown = refl

largest_shown : shown 4294967294 ≡ bytes "4294967294"
unfolding digits decimal shown
largest_shown = refl

-- the kind that the listing above does not have
step_word : kind_word 2 ≡ bytes "step"
unfolding kind_word
step_word = refl
