-- A run of stores: what is read after it.
use Rattle.std.specs.Prelude.{ℕ, zero, suc, ◌+◌, ◌≤◌, ◌<◌, ◌≡◌, refl, List, [], ◌∷◌, length, take, get_or, set}
use Rattle.std.proofs.Common.{arith, ap, ◌∙◌, length-set, get_or-set_same, get_or-set_other}
use Rattle.std.proofs.lemmas.List.Edits.{sets}
use Rattle.kernel.specs.Laws.Tests.{below}

pub sets_below : (vs w : List ℕ) (at n : ℕ) → n < at → get_or (sets w at vs) n 0 ≡ get_or w n 0
sets_below [] w at n h = refl
sets_below (v ∷ vs) w at n h = sets_below vs (set w at v) (suc at) n (omega arith) ∙ get_or-set_other w at n v 0 (omega arith)

pub sets_above : (vs w : List ℕ) (at n : ℕ) → at + length vs ≤ n → get_or (sets w at vs) n 0 ≡ get_or w n 0
sets_above [] w at n h = refl
sets_above (v ∷ vs) w at n h = sets_above vs (set w at v) (suc at) n (omega arith) ∙ get_or-set_other w at n v 0 (omega arith)

pub sets_at : (vs w : List ℕ) (at k : ℕ) → at + length vs ≤ length w → k < length vs → get_or (sets w at vs) (at + k) 0 ≡ get_or vs k 0
sets_at [] w at k h q = absurd (omega arith)
sets_at (v ∷ vs) w at zero h q =
    ap (λ (n : ℕ). get_or (sets (set w at v) (suc at) vs) n 0) (omega arith)
    ∙ sets_below vs (set w at v) (suc at) at (omega arith)
    ∙ get_or-set_same w at v 0 (omega arith)
sets_at (v ∷ vs) w at (suc k) h q =
    ap (λ (n : ℕ). get_or (sets (set w at v) (suc at) vs) n 0) (omega arith)
    ∙ sets_at vs (set w at v) (suc at) k (omega (arith, length-set w at v)) (omega arith)

-- a row filled from the front, with one store more
pub filled_more : (f : ℕ → ℕ) (w : List ℕ) (n v : ℕ) → n < length w → v ≡ f n → ((i : ℕ) → i < n → get_or w i 0 ≡ f i)
    → (i : ℕ) → i < n + 1 → get_or (set w n v) i 0 ≡ f i
filled_more f w n v h e r i q =
    below (λ i. get_or (set w n v) i 0 ≡ f i) n
    (λ i (z : i < n). get_or-set_other w n i v 0 (omega arith) ∙ r i z)
    (get_or-set_same w n v 0 h ∙ e) i (omega arith)

-- one word more of a row that is copied
sets_take : (ws l : List ℕ) (at i : ℕ) → i < length ws → sets l at (take (suc i) ws) ≡ set (sets l at (take i ws)) (at + i) (get_or ws i 0)
sets_take [] l at i h = absurd (omega arith)
sets_take (x ∷ ws) l at zero h = let e : at + 0 ≡ at = omega arith in rw e
sets_take (x ∷ ws) l at (suc i) h =
    let e : at + suc i ≡ suc at + i = omega arith in
    rw e (sets_take ws (set l at x) (suc at) i (omega arith))

pub copied : (ws l : List ℕ) (i : ℕ) → i < length ws → sets l 0 (take (suc i) ws) ≡ set (sets l 0 (take i ws)) i (get_or ws i 0)
copied ws l i h = sets_take ws l 0 i h ∙ ap (λ (n : ℕ). set (sets l 0 (take i ws)) n (get_or ws i 0)) (omega arith)

-- what is stored at the start stands there
sets_cons : (vs l : List ℕ) (x at : ℕ) → sets (x ∷ l) (suc at) vs ≡ x ∷ sets l at vs
sets_cons [] l x at = refl
sets_cons (v ∷ vs) l x at = sets_cons vs (set l at v) x (suc at)

pub take_sets : (vs l : List ℕ) → length vs ≤ length l → take (length vs) (sets l 0 vs) ≡ vs
take_sets [] l h = refl
take_sets (v ∷ vs) [] h = absurd (omega arith)
take_sets (v ∷ vs) (x ∷ l) h = rw (sets_cons vs l v 0) (ap (λ (r : List ℕ). v ∷ r) (take_sets vs l (omega arith)))
