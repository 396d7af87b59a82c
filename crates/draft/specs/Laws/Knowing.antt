-- Lock names, one word after the other.
use Rattle.std.specs.Prelude.{ℕ, suc, ◌+◌, ◌*◌, ◌^◌, ◌%◌, ◌<◌, ◌≤◌, ◌≡◌, refl, Bool, true, false, cond, not, get_or, drop, ltb}
use Rattle.std.proofs.Common.{add-one, arith, ap, length-append, drop-cons, drop_of_length-le, ltb-true, ltb-false, lt-ltb, le-ltb, sym, ◌∙◌}
use mathlib.Core.List.{List, [], ◌∷◌, ◌++◌}
use Rattle.std.proofs.Math.ListN.{length}
use Rattle.std.specs.Int.Bits.{bit_or}
use Rattle.std.specs.List.{position, position_or_len}
use Rattle.std.specs.Prelude.{map, Some, None}
use Rattle.std.specs.Borrow.{Bor}
use Rattle.std.proofs.lemmas.List.{length-map, map-append}
use Rattle.draft.specs.Known.{known, NumberIs}
use Rattle.draft.specs.declared.locks.Names.{Names}
use Rattle.draft.specs.Words.{none, same}
use Rattle.draft.specs.Locks.{number_in, knowing, names_with, held_from, too_many}
use Rattle.draft.specs.Laws.Bits.{bit_is}

pub number_le : (ns : List (List ℕ)) (w : List ℕ) → number_in ns w ≤ length ns
unfolding number_in
number_le [] w = omega arith
number_le (n ∷ ns) w = go (same n w) (number_le ns w)
  where
    go : (b : Bool) → number_in ns w ≤ length ns → cond b 0 (suc (number_in ns w)) ≤ suc (length ns)
    go true h = omega arith
    go false h = omega arith

-- it is the place of the first name that is the same
number_is : (ns : List (List ℕ)) (w : List ℕ) → position_or_len (λ n. same n w) ns ≡ number_in ns w
unfolding number_in
number_is [] w = refl
number_is (n ∷ ns) w = go (same n w) (number_is ns w)
  where
    go : (b : Bool) → position_or_len (λ n. same n w) ns ≡ number_in ns w → cond (not b) (1 + position_or_len (λ n. same n w) ns) 0 ≡ cond b 0 (suc (number_in ns w))
    go true h = refl
    go false h = omega arith

-- ---- the names as slices

pub known_length : (names : Names) → length (known names) ≡ length names.names.items
known_length names = length-map names.names.items (λ (n : Bor (List ℕ)). n.now)

-- there is a number for each
pub known_few : (names : Names) → length (known names) ≤ 16
known_few names = omega (arith, known_length names, names.few)

pub known_push : (names : Names) (after : List (Bor (List ℕ))) (name : Bor (List ℕ)) → after ≡ names.names.items ++ name ∷ []
    → map (λ (n : Bor (List ℕ)). n.now) after ≡ known names ++ name.now ∷ []
known_push names after name e = rw e (map-append (λ (n : Bor (List ℕ)). n.now) names.names.items (name ∷ []))

pub place_known : (names : Names) (w : List ℕ) → position (λ (n : Bor (List ℕ)). same n.now w) names.names.items ≡ position (λ n. same n w) (known names)
place_known names w = rw (same_place names.names.items, known_length names)
  where
    same_place : (ns : List (Bor (List ℕ))) → position_or_len (λ (n : Bor (List ℕ)). same n.now w) ns ≡ position_or_len (λ n. same n w) (map (λ (n : Bor (List ℕ)). n.now) ns)
    same_place [] = refl
    same_place (n ∷ ns) = rw (same_place ns)

-- ---- the number of a name

module _ (ns : List (List ℕ)) (name : List ℕ) (few : length ns ≤ 16) where
  abbrev number : ℕ
  number = number_in ns name

  placed : position (λ n. same n name) ns ≡ cond (ltb number (length ns)) (Some number) None
  placed = rw (number_is ns name)

  -- a name that stands among those known
  pub number_found : (k : ℕ) → Some k ≡ position (λ n. same n name) ns → NumberIs ns ns name (Some k)
  number_found k p = go (ltb number (length ns)) refl (p ∙ placed)
    where
      go : (b : Bool) → ltb number (length ns) ≡ b → Some k ≡ cond b (Some number) None → NumberIs ns ns name (Some k)
      go true t q =
          let at : k ≡ number = cc in
          let less : number < length ns = ltb-true number (length ns) t in
          (at, omega arith, rw (lt-ltb number (length ns) less))
      go false t q = cc

  -- a name that does not
  module _ (missing : None ≡ position (λ n. same n name) ns) where
    new : number ≡ length ns
    new = go (ltb number (length ns)) refl (missing ∙ placed)
      where
        go : (b : Bool) → ltb number (length ns) ≡ b → None ≡ cond b (Some number) None → number ≡ length ns
        go true t q = cc
        go false t q = omega (arith, ltb-false number (length ns) t, number_le ns name)

    one_more : knowing ns name ≡ ns ++ name ∷ []
    one_more = rw (le-ltb number (length ns) (omega (arith, new)))

    -- where there is room for it, and where there is none
    pub number_new : (after : List (List ℕ)) (k : ℕ) → k ≡ length ns → k < 16 → after ≡ ns ++ name ∷ [] → NumberIs ns after name (Some k)
    number_new after k e l a = (e ∙ sym new, l, rw one_more a)

    pub number_full : length ns ≡ 16 → NumberIs ns ns name None
    number_full e = rw one_more (omega (arith, length-append ns (name ∷ [])))

-- the names do not get fewer
knowing_grows : (ns : List (List ℕ)) (w : List ℕ) → length ns ≤ length (knowing ns w)
knowing_grows ns w = go (ltb (number_in ns w) (length ns))
  where
    go : (b : Bool) → length ns ≤ length (cond b ns (ns ++ w ∷ []))
    go true = omega arith
    go false = omega (arith, length-append ns (w ∷ []))

pub names_grow : (ns ws : List (List ℕ)) → length ns ≤ length (names_with ns ws)
unfolding names_with
names_grow ns [] = omega arith
names_grow ns (w ∷ ws) = omega (arith, names_grow (knowing ns w) ws, knowing_grows ns w)

-- ---- the locks of a line: what the words so far gave, and what is still to come

-- ---- a search for a name

-- the names before number k are passed, and none is the name w
pub record Seeking (n : Names) (w : List ℕ) (k : ℕ) : Type 0 where
  pub inside : k ≤ length n.names.items
  pub left : (ns : List (List ℕ)) → known n ≡ ns → number_in ns w ≡ k + number_in (drop k ns) w

pub seek_start : (n : Names) (w : List ℕ) → Seeking n w 0
seek_start n w = record { inside = omega arith; left = λ ns h. omega arith }

module _ (n : Names) (w v : List ℕ) (k : ℕ) (t : Bool) (seeking : Seeking n w k) (here : k < length n.names.items)
    (name : v ≡ get_or (known n) k []) (told : t ≡ same v w) where
  -- what the test compares
  compared : (ns : List (List ℕ)) → known n ≡ ns → t ≡ same (get_or ns k []) w
  compared ns h = told ∙ rw (name, h)

  -- number k is not the name
  pub seek_more : t ≡ false → Seeking n w (k + 1)
  unfolding number_in
  seek_more e = record {
    inside = omega (arith, here);
    left = λ ns h. seeking.left ns h ∙ (let l : k < length ns = omega (arith, here, known_length n, ap length h) in rw (add-one, drop-cons ns k [] l, ← compared ns h, e) (omega arith));
  }

  -- it is
  pub seek_found : t ≡ true → (ns : List (List ℕ)) → known n ≡ ns → k ≡ number_in ns w
  unfolding number_in
  seek_found e ns h = sym (seeking.left ns h ∙ (let l : k < length ns = omega (arith, here, known_length n, ap length h) in rw (drop-cons ns k [] l, ← compared ns h, e) (omega arith)))

pub seek_over : (n : Names) (w : List ℕ) (k : ℕ) → Seeking n w k → length n.names.items ≤ k → (ns : List (List ℕ)) → known n ≡ ns → k ≡ number_in ns w
unfolding number_in
seek_over n w k seeking e ns h =
    let l : length ns ≤ k = omega (arith, e, known_length n, ap length h) in sym (seeking.left ns h ∙ rw (drop_of_length-le ns l) (omega arith))

-- ---- the names known

pub knows_none : (n : Names) → n.names.items ≡ [] → (known n ≡ []) × (length (known n) ≤ 16)
knows_none n e = rw e (refl, omega arith)

-- the names known with one more, whose number is k
pub knows_more : (n r : Names) (name : Bor (List ℕ)) (k : ℕ) (ns : List (List ℕ)) → known n ≡ ns → length ns ≤ 16 → k ≡ number_in ns name.now → k < 16
    → r.names.items ≡ cond (ltb k (length n.names.items)) n.names.items (n.names.items ++ name ∷ []) → (known r ≡ knowing ns name.now) × (length (known r) ≤ 16)
knows_more n r name k ns h few e l q = go (ltb k (length n.names.items)) refl q
  where
    same_length : length n.names.items ≡ length ns
    same_length = sym (known_length n) ∙ ap length h

    go : (b : Bool) → ltb k (length n.names.items) ≡ b → r.names.items ≡ cond b n.names.items (n.names.items ++ name ∷ []) → (known r ≡ knowing ns name.now) × (length (known r) ≤ 16)
    go true t p =
        let less : number_in ns name.now < length ns = omega (arith, ltb-true k (length n.names.items) t, e, same_length) in
        let all : known r ≡ ns = rw p h in
        (rw (lt-ltb (number_in ns name.now) (length ns) less) all, rw all few)
    go false t p =
        let full : length ns ≤ number_in ns name.now = omega (arith, ltb-false k (length n.names.items) t, e, same_length) in
        let all : known r ≡ ns ++ name.now ∷ [] = known_push n r.names.items name p ∙ rw h in
        (rw (le-ltb (number_in ns name.now) (length ns) full) all, rw all (omega (arith, length-append ns (name.now ∷ []), number_le ns name.now, e, l, full)))

pub names_over : (ns ws : List (List ℕ)) → none ws ≡ true → names_with ns ws ≡ ns
unfolding names_with
names_over ns [] e = refl
names_over ns (w ∷ ws) e = cc

abbrev pub Naming : (names : List (List ℕ)) (held : ℕ) (rest before words : List (List ℕ)) → Type 0
Naming names held rest before words = (names_with names rest ≡ names_with before words) × (held_from names held rest ≡ held_from before 0 words)

pub naming_start : (ns words : List (List ℕ)) → Naming ns 0 words ns words
naming_start ns words = (refl, refl)

module _ (names before words rest more : List (List ℕ)) (name : List ℕ) (held : ℕ) (so_far : Naming names held rest before words) (next : rest ≡ name ∷ more) where
  pub naming_step : (names' : List (List ℕ)) (k : ℕ) → k ≡ number_in names name → k < 16 → names' ≡ knowing names name
      → Naming names' (bit_or held (1 * 2 ^ k % 65536)) more before words
  unfolding names_with held_from
  naming_step names' k e l known = (rw known (rw next at so_far.0), rw (bit_is held k l, known, e) (rw next at so_far.1))

  -- a seventeenth name
  pub naming_full : 16 < length (knowing names name) → too_many before words ≡ true
  unfolding names_with
  naming_full l = rw (← so_far.0, next) (lt-ltb 16 (length (names_with (knowing names name) more)) (omega (arith, names_grow (knowing names name) more)))

pub naming_over : (names before words rest : List (List ℕ)) (held : ℕ) → Naming names held rest before words → rest ≡ [] → length names ≤ 16
    → (too_many before words ≡ false) × (held ≡ held_from before 0 words) × (names ≡ names_with before words)
unfolding names_with held_from
naming_over names before words rest held so_far e few =
    let all : names ≡ names_with before words = rw e at so_far.0 in
    (rw (← all) (le-ltb 16 (length names) few), rw e at so_far.1, all)
