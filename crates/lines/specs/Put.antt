-- What a call writes: a text at a place of the buffer, as much of it as fits.
use Rattle.std.specs.Prelude.{ℕ, zero, suc, min, ◌+◌, ◌-◌, ◌≤◌, ◌<◌, ◌≡◌, refl, List, [], ◌∷◌, ◌++◌, length, take, get_or, set}
use Rattle.std.proofs.Common.{add-one, arith, sym, ap, ◌∙◌, length-append, length-take-le, take-suc, take_all}
use Rattle.std.proofs.lemmas.List.{length-set}
use Rattle.std.proofs.lemmas.List.Edits.{sets, sets-eq}
use Rattle.std.proofs.lemmas.Slice.{put_mid-paste}
use Rattle.std.proofs.Math.Decide.{dec_lt}
use Rattle.std.proofs.Math.Nat.{min-le_left, min-le_right, min-eq_left, min-eq_right}
use Rattle.std.proofs.Math.Seq.{length-sets, set_out}
use borrow.Rule.Slice.PartMut.{put_mid}
use Rattle.lines.specs.Text.{line}

-- the text stands at `at`, and r is the place after it
pub record Put (before : List ℕ) (at : ℕ) (text after : List ℕ) (r : ℕ) : Type 0 where
  pub place : r ≡ at + length text
  pub content : after ≡ sets before at text

-- a word of at most ten bytes, and the byte that ends it
pub record Word (before : List ℕ) (at : ℕ) (word : List ℕ) (end : ℕ) (after : List ℕ) (r : ℕ) : Type 0 where
  pub put : Put before at (word ++ end ∷ []) after r
  pub short : r ≤ at + 11

-- nothing is written yet
pub put_none : (a : List ℕ) (i : ℕ) → Put a i [] a i
put_none a i = record { place = omega arith; content = refl }

-- a run of stores, in two parts
sets_append : (b : List ℕ) (i : ℕ) (xs ys : List ℕ) → sets b i (xs ++ ys) ≡ sets (sets b i xs) (i + length xs) ys
sets_append b i [] ys = let e : i + 0 ≡ i = omega arith in rw e
sets_append b i (x ∷ xs) ys = let e : i + suc (length xs) ≡ suc i + length xs = omega arith in rw e (sets_append (set b i x) (suc i) xs ys)

-- one text after the other
pub put_then : {a b c s t : List ℕ} {i j k : ℕ} → Put a i s b j → Put b j t c k → Put a i (s ++ t) c k
put_then {a = a} {s = s} {t = t} {i = i} p q = record {
  place = omega (arith, length-append s t);
  content = q.content ∙ rw (p.content, p.place) (sym (sets_append a i s t));
}

-- a word of a line, and the rest of the line
pub line_word : (v : List ℕ) (ws : List (List ℕ)) {a b c w : List ℕ} {i j k : ℕ} → Word a i w 32 b j → Put b j (line (v ∷ ws)) c k → Put a i (line (w ∷ v ∷ ws)) c k
unfolding line
line_word v ws p q = put_then p.put q

-- the last word of a line
pub line_last : {a b w : List ℕ} {i j : ℕ} → Word a i w 10 b j → Put a i (line (w ∷ [])) b j
unfolding line
line_last p = p.put

-- the buffer keeps its length
pub put_length : {a t b : List ℕ} {i j : ℕ} → Put a i t b j → length b ≡ length a
put_length {a = a} {t = t} {i = i} p = ap length p.content ∙ length-sets a i t

-- the place after the first n bytes of a text
pub put_place : (s : List ℕ) (n : ℕ) → n ≤ length s → {a b : List ℕ} {i j : ℕ} → Put a i (take n s) b j → j ≡ i + n
put_place s n h p = omega (arith, length-take-le n s h)

-- one byte more of a text that is written byte by byte
pub put_byte : (s : List ℕ) (n : ℕ) → n < length s → {a b c : List ℕ} {i j k : ℕ} → Put a i (take n s) b j → Put b j (get_or s n 0 ∷ []) c k → Put a i (take (n + 1) s) c k
put_byte s n h p q = rw (add-one n, take-suc s n 0 h) (put_then p q)

-- all its bytes
pub put_all : (s : List ℕ) (n : ℕ) → length s ≤ n → {a b : List ℕ} {i j : ℕ} → Put a i (take n s) b j → Put a i s b j
put_all s n h p = rw (take_all n s h) at p

-- a copy of a text to a part of its length is a write of it
part_written : (a k : ℕ) (xs ys zs : List ℕ) → k ≡ length zs → ys ≡ zs → a + length zs ≤ length xs → put_mid a k xs ys ≡ sets xs a zs
part_written a k xs ys zs e f h = put_mid-paste a k xs ys zs (length zs) f (sym e) refl ∙ rw (sets-eq zs xs a h, take_all (length zs) zs (omega arith))

-- past the end of a buffer nothing is stored
sets_past : (b : List ℕ) (i : ℕ) (xs : List ℕ) → length b ≤ i → sets b i xs ≡ b
sets_past b i [] h = refl
sets_past b i (x ∷ xs) h = rw (set_out b i x h) (sets_past b (suc i) xs (omega (arith, h)))

-- so the part of a text that fits is all that counts
sets_part : (b : List ℕ) (i : ℕ) (xs : List ℕ) (n : ℕ) → length b ≤ i + n → sets b i (take n xs) ≡ sets b i xs
sets_part b i xs zero h = sym (sets_past b i xs (omega (arith, h)))
sets_part b i [] (suc n) h = refl
sets_part b i (x ∷ xs) (suc n) h = sets_part (set b i x) (suc i) xs n (omega (arith, h, length-set b i x))

module _ (b xs : List ℕ) (at start part : ℕ) (p : start ≡ min at (length b)) (q : part ≡ min (length xs) (length b - start)) where
  inside : start + part ≤ length b
  inside = omega (arith, p, q, min-le_right at (length b), min-le_right (length xs) (length b - start))

  fits : part ≤ length xs
  fits = omega (arith, q, min-le_left (length xs) (length b - start))

  all_counts : sets b start (take part xs) ≡ sets b at xs
  all_counts =
      elim (dec_lt at (length b)) [
        | yes h ↦ at_end (p ∙ min-eq_left (omega (arith, h)))
        | no h ↦
            let end : start ≡ length b = p ∙ min-eq_right (over h) in
            sets_past b start (take part xs) (omega (arith, end)) ∙ sym (sets_past b at xs (over h))
      ]
    where
      over : (at < length b → ⊥) → length b ≤ at
      over h = omega (arith, h)

      at_end : start ≡ at → sets b start (take part xs) ≡ sets b at xs
      at_end e =
          elim (dec_lt (length xs) (length b - start)) [
            | yes m ↦ (let all : part ≡ length xs = q ∙ min-eq_left (omega (arith, m)) in rw (e, take_all part xs (omega (arith, all))))
            | no m ↦ (let rest : part ≡ length b - start = q ∙ min-eq_right (enough m) in rw (← e) (sets_part b start xs part (omega (arith, rest))))
          ]
        where
          enough : (length xs < length b - start → ⊥) → length b - start ≤ length xs
          enough m = omega (arith, m)

  -- a copy of the part that fits is a write of the text
  pub part_put : (ys : List ℕ) → ys ≡ take part xs → put_mid start (start + part - start) b ys ≡ sets b at xs
  part_put ys e =
      let many : length (take part xs) ≡ part = length-take-le part xs fits in
      part_written start (start + part - start) b ys (take part xs) (omega (arith, many)) e (omega (arith, inside, many)) ∙ all_counts
