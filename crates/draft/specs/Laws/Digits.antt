-- A number read digit by digit.
use Rattle.std.specs.Prelude.{ℕ, suc, ◌+◌, ◌*◌, ◌-◌, ◌<◌, ◌≤◌, ◌≡◌, refl, List, [], ◌∷◌, Bool, true, false, cond, ◌&&◌, length, get_or, drop, leb, Option, Some, None}
use Rattle.std.proofs.Common.{add-one, arith, sym, ◌∙◌, ap, drop_of_length-le, drop-cons, leb-true, leb-false, le-leb}
use Rattle.std.proofs.lemmas.Bool.{lt-leb}
use Rattle.std.specs.Borrow.{Bor}
use Rattle.std.specs.Fn.{Called}
use Rattle.std.specs.Prelude.{MatchOption}
use Rattle.std.specs.Iterator.{Yields, AlwaysYields, TryFoldTurn, TryFoldsItems}
use Rattle.std.proofs.lemmas.Iterator.{YieldsList}
use Rattle.std.specs.List.{FoldsTo}
use Rattle.std.specs.declared.ops.ControlFlow.{ControlFlow}
use Rattle.std.specs.ControlFlow.{continue_value}
use mathlib.Core.Path.{subst}
use denote.Param.Members.{Mut}
use Rattle.draft.specs.Numbers.{is_digit, all_digits, value_from, within, number_from, number_of}

-- digits make a number no smaller
value_grows : (v : ℕ) (w : List ℕ) → v ≤ value_from v w
unfolding value_from
value_grows v [] = omega arith
value_grows v (x ∷ xs) = let h = value_grows (10 * v + (x - 48)) xs in omega arith

never : {A : Type 0} (n : ℕ) → None ≡ Some n → A
never n e = cc

-- a number that is within the limit
within_is : (most : ℕ) (d : Bool) (v n : ℕ) → within most d v ≡ Some n → (d ≡ true) × (v ≡ n) × (n ≤ most)
within_is most d v n e = go d (leb v most) refl refl e
  where
    go : (a t : Bool) → d ≡ a → leb v most ≡ t → cond (a && t) (Some v) None ≡ Some n → (d ≡ true) × (v ≡ n) × (n ≤ most)
    go true true p q r = let s : v ≡ n = cc in (p, s, (let h = leb-true v most q in omega arith))
    go true false p q r = never n r
    go false t p q r = never n r

pub number_small : (most v b n : ℕ) (x : Option ℕ) → x ≡ within most (is_digit b) (10 * v + (b - 48)) → x ≡ Some n → n ≤ most
number_small most v b n x e f = (within_is most (is_digit b) (10 * v + (b - 48)) n (sym e ∙ f)).2

-- one digit more
pub number_step : (most v : ℕ) (w : List ℕ) (i b n : ℕ) → i < length w → b ≡ get_or w i 0 → within most (is_digit b) (10 * v + (b - 48)) ≡ Some n
    → number_from most v (drop i w) ≡ number_from most n (drop (i + 1) w)
unfolding number_from all_digits value_from
number_step most v w i b n h e f =
    let g = within_is most (is_digit b) (10 * v + (b - 48)) n f in
    rw (add-one, drop-cons w i 0 h, ← e, g.0) (ap (λ (x : ℕ). number_from most x (drop (suc i) w)) g.1)

-- a byte that is no digit, or one too many
pub number_stop : (most v : ℕ) (w : List ℕ) (i b : ℕ) → i < length w → b ≡ get_or w i 0 → within most (is_digit b) (10 * v + (b - 48)) ≡ None
    → number_from most v (drop i w) ≡ None
unfolding number_from all_digits value_from
number_stop most v w i b h e f = rw (drop-cons w i 0 h, ← e) (go (is_digit b) (leb (10 * v + (b - 48)) most) refl f (all_digits (drop (suc i) w)))
  where
    go : (d t : Bool) → leb (10 * v + (b - 48)) most ≡ t → cond (d && t) (Some (10 * v + (b - 48))) None ≡ None → (a : Bool)
        → within most (d && a) (value_from (10 * v + (b - 48)) (drop (suc i) w)) ≡ None
    go true true q r a = cc
    go true false q r true = rw (lt-leb (value_from (10 * v + (b - 48)) (drop (suc i) w)) most (omega (arith, leb-false (10 * v + (b - 48)) most q, value_grows (10 * v + (b - 48)) (drop (suc i) w))))
    go true false q r false = refl
    go false t q r a = refl

pub number_over : (most v : ℕ) (w : List ℕ) (i : ℕ) → length w ≤ i → v ≤ most → number_from most v (drop i w) ≡ Some v
unfolding number_from all_digits value_from
number_over most v w i h l = rw (drop_of_length-le w h, le-leb v most l)

-- no digit, and some
pub number_missing : (most : ℕ) (w : List ℕ) → length w ≡ 0 → None ≡ number_of most w
unfolding number_of
number_missing most [] e = refl
number_missing most (x ∷ xs) e = absurd (omega arith)

pub number_begins : (most : ℕ) (w : List ℕ) → (length w ≡ 0 → ⊥) → number_from most 0 w ≡ number_of most w
unfolding number_of
number_begins most [] d = absurd (d refl)
number_begins most (x ∷ xs) d = refl

-- a number that was read is not above the limit
pub number_most : (most n : ℕ) (w : List ℕ) → number_of most w ≡ Some n → n ≤ most
unfolding number_of number_from
number_most most n [] e = never n e
number_most most n (y ∷ ys) e = (within_is most (all_digits (y ∷ ys)) (value_from 0 (y ∷ ys)) n e).2

-- ---- the digits by `try_fold`: each call gives the number with one digit more

-- a call went on, or broke off
abbrev Branches : {E : Type 0} → Option ℕ → ControlFlow E ℕ → Type 0
Branches = λ v r. v ≡ continue_value r

module _ {S F : Type 0} (E : Type 0) (steps : S → Option (Bor ℕ) → S → Type 0) (g : Mut F (ℕ × (Bor ℕ × Unit {0})) (Option ℕ)) (most : ℕ) (f : F)
    (step : (n : ℕ) (x : Bor ℕ) (v : Option ℕ) (q : F) → Called g f (n, (x, tt)) v q → (q ≡ f) × (v ≡ within most (is_digit x.now) (10 * n + (x.now - 48)))) where
  folded : (xs : List (Bor ℕ)) (all : List ℕ) (n : ℕ) (p : F × ℕ) (s t u : S) (o : Option (Bor ℕ)) (h : F) (a : ℕ) (r : Option ℕ) → p ≡ (f, n) → n ≤ most
      → AlwaysYields steps (λ x. x.now) s all → Yields steps s xs t → FoldsTo {P = F × ℕ} (TryFoldTurn g (Branches {E = E})) p xs (h, a) → steps t o u
      → MatchOption o (r ≡ Some a) (λ x. (v : Option ℕ) × (k : F) × (e : E) × Called g h (a, (x, tt)) v k × (v ≡ None) × (r ≡ None)) → r ≡ number_from most n all
  folded [] [] n p s t u None h a r i l e y c w d = d ∙ ap (λ k. Some k.1) (sym c ∙ i) ∙ sym (number_over most n [] 0 (omega arith) l)
  folded [] [] n p s t u (Some x) h a r i l e y c w d = absurd (e x u (subst (λ k. steps k (Some x) u) (sym y) w))
  folded [] (z ∷ all) n p s t u None h a r i l e y c w d = absurd (e.0 u (subst (λ k. steps k None u) (sym y) w))
  folded [] (z ∷ all) n p s t u (Some x) h a r i l e y c w d =
      let called = step n x d.0 d.1 (subst (λ k. Called g k.0 (k.1, (x, tt)) d.0 d.1) (sym c ∙ i) d.3) in
      let here = (e.1 x u (subst (λ k. steps k (Some x) u) (sym y) w)).0 in
      d.5 ∙ sym (number_stop most n (z ∷ all) 0 x.now (omega arith) here (sym called.1 ∙ d.4))
  folded (x ∷ xs) [] n p s t u o h a r i l e y c w d = absurd (e x y.0 y.1)
  folded (x ∷ xs) (z ∷ all) n p s t u o h a r i l e y c w d =
      let called = step n x c.1.0 c.0.0 (subst (λ k. Called g k.0 (k.1, (x, tt)) c.1.0 c.0.0) i c.1.1) in
      let here = e.1 x y.0 y.1 in
      folded xs all c.0.1 c.0 y.0 t u o h a r (ap (λ (k : F). (k, c.0.1)) called.0) (number_small most n x.now c.0.1 c.1.0 called.1 c.1.2) here.1 y.2 c.2 w d
      ∙ sym (number_step most n (z ∷ all) 0 x.now c.0.1 (omega arith) here.0 (sym called.1 ∙ c.1.2))

pub number_folded : {S F E : Type 0} {steps : S → Option (Bor ℕ) → S → Type 0} (g : Mut F (ℕ × (Bor ℕ × Unit {0})) (Option ℕ)) (most : ℕ) (f : F) (s u : S) (r : Option ℕ) (all : List ℕ)
    → TryFoldsItems steps g (Branches {E = E}) (λ e r. r ≡ None) s f 0 r u → YieldsList steps (λ x. x.now) s all
    → ((n : ℕ) (x : Bor ℕ) (v : Option ℕ) (q : F) → Called g f (n, (x, tt)) v q → (q ≡ f) × (v ≡ within most (is_digit x.now) (10 * n + (x.now - 48)))) → r ≡ number_from most 0 all
number_folded {E = E} {steps = steps} g most f s u r all d y step =
    folded E steps g most f step d.0 all 0 (f, 0) s d.4.0 u d.1 d.2 d.3 r refl (omega arith) y.runs d.4.1 d.5 d.4.2 d.6
