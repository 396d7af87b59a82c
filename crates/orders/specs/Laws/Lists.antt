-- Lists of which all, or some, have a property; lists whose members stand in a relation to all later ones; lists of images.
use Rattle.std.specs.Prelude.{◌≡◌, refl, ◌⊎◌, ℕ, List, [], ◌∷◌, ◌++◌, map}
use Rattle.std.proofs.Common.{ap, ◌∙◌, inl, inr, arith}

module _ {A : Type 0} where
  abbrev pub All : (A → Type 0) → List A → Type 0
  All P [] = Unit {0}
  All P (x ∷ xs) = P x × All P xs

  abbrev pub Any : (A → Type 0) → List A → Type 0
  Any P [] = ⊥
  Any P (x ∷ xs) = P x ⊎ Any P xs

  pub all_map : (P Q : A → Type 0) → ((x : A) → P x → Q x) → (l : List A) → All P l → All Q l
  all_map P Q f [] h = tt
  all_map P Q f (x ∷ xs) h = (f x h.0, all_map P Q f xs h.1)

  pub all_zip : (P Q R : A → Type 0) → ((x : A) → P x → Q x → R x) → (l : List A) → All P l → All Q l → All R l
  all_zip P Q R f [] h k = tt
  all_zip P Q R f (x ∷ xs) h k = (f x h.0 k.0, all_zip P Q R f xs h.1 k.1)

  pub any_map : (P Q R : A → Type 0) → ((x : A) → P x → Q x → R x) → (l : List A) → All P l → Any Q l → Any R l
  any_map P Q R f [] h q = elim q [ ]
  any_map P Q R f (x ∷ xs) h (inl q) = inl (f x h.0 q)
  any_map P Q R f (x ∷ xs) h (inr q) = inr (any_map P Q R f xs h.1 q)

  pub any_imp : (P Q : A → Type 0) → ((x : A) → P x → Q x) → (l : List A) → Any P l → Any Q l
  any_imp P Q f [] h = elim h [ ]
  any_imp P Q f (x ∷ xs) (inl h) = inl (f x h)
  any_imp P Q f (x ∷ xs) (inr h) = inr (any_imp P Q f xs h)

  -- one of a list of which all have P
  pub one_of : (P R : A → Type 0) (X : Type 0) → ((x : A) → P x → R x → X) → (l : List A) → All P l → Any R l → X
  one_of P R X f [] h r = elim r [ ]
  one_of P R X f (x ∷ xs) h (inl r) = f x h.0 r
  one_of P R X f (x ∷ xs) h (inr r) = one_of P R X f xs h.1 r

  pub all_append : (P : A → Type 0) (l m : List A) → All P l → All P m → All P (l ++ m)
  all_append P [] m h k = k
  all_append P (x ∷ xs) m h k = (h.0, all_append P xs m h.1 k)

  pub any_left : (P : A → Type 0) (l m : List A) → Any P l → Any P (l ++ m)
  any_left P [] m h = elim h [ ]
  any_left P (x ∷ xs) m (inl h) = inl h
  any_left P (x ∷ xs) m (inr h) = inr (any_left P xs m h)

  pub any_right : (P : A → Type 0) (l m : List A) → Any P m → Any P (l ++ m)
  any_right P [] m h = h
  any_right P (x ∷ xs) m h = inr (any_right P xs m h)

  -- each against every later one
  abbrev pub Apart : (A → A → Type 0) → List A → Type 0
  Apart R [] = Unit {0}
  Apart R (x ∷ xs) = All (R x) xs × Apart R xs

  pub apart_map : (R Q : A → A → Type 0) → ((x y : A) → R x y → Q x y) → (l : List A) → Apart R l → Apart Q l
  apart_map R Q f [] h = tt
  apart_map R Q f (x ∷ xs) h = (all_map (R x) (Q x) (f x) xs h.0, apart_map R Q f xs h.1)

  pub all_of : (P : A → Type 0) → ((x : A) → P x) → (l : List A) → All P l
  all_of P f [] = tt
  all_of P f (x ∷ xs) = (f x, all_of P f xs)

  pub apart_append : (R : A → A → Type 0) (l m : List A) → Apart R l → Apart R m → All (λ x. All (R x) m) l → Apart R (l ++ m)
  apart_append R [] m h k x = k
  apart_append R (y ∷ ys) m h k x = (all_append (R y) ys m h.0 x.0, apart_append R ys m h.1 k x.1)

module _ {A B : Type 0} where
  pub all_of_map : (f : A → B) (P : B → Type 0) (l : List A) → All (λ x. P (f x)) l → All P (map f l)
  all_of_map f P [] h = tt
  all_of_map f P (x ∷ xs) h = (h.0, all_of_map f P xs h.1)

  pub any_of_map : (f : A → B) (P : B → Type 0) (l : List A) → Any (λ x. P (f x)) l → Any P (map f l)
  any_of_map f P [] h = elim h [ ]
  any_of_map f P (x ∷ xs) (inl h) = inl h
  any_of_map f P (x ∷ xs) (inr h) = inr (any_of_map f P xs h)

  pub apart_of_map : (f : A → B) (R : B → B → Type 0) (l : List A) → Apart (λ x y. R (f x) (f y)) l → Apart R (map f l)
  apart_of_map f R [] h = tt
  apart_of_map f R (x ∷ xs) h = (all_of_map f (R (f x)) xs h.0, apart_of_map f R xs h.1)

  -- where the images split, so does the list
  pub unmap_append : (f : A → B) (l : List A) (c d : List B) → map f l ≡ c ++ d
      → (b a : List A) × (l ≡ b ++ a) × (map f b ≡ c) × (map f a ≡ d)
  unmap_append f l [] d e = ([], l, refl, refl, e)
  unmap_append f [] (y ∷ c) d e = absurd (let z : ◌≡◌ {A = ℕ} 0 1 = cc in omega arith)
  unmap_append f (x ∷ l) (y ∷ c) d e =
      let tail : map f l ≡ c ++ d = cc in
      let (b, a, p, q, r) = unmap_append f l c d tail in
      (x ∷ b, a, cc, cc, r)

  pub unmap_cons : (f : A → B) (l : List A) (y : B) (d : List B) → map f l ≡ y ∷ d
      → (x : A) × (a : List A) × (l ≡ x ∷ a) × (f x ≡ y) × (map f a ≡ d)
  unmap_cons f [] y d e = absurd (let z : ◌≡◌ {A = ℕ} 0 1 = cc in omega arith)
  unmap_cons f (x ∷ l) y d e = (x, l, refl, cc, cc)

  pub unmap_nil : (f : A → B) (l : List A) → map f l ≡ [] → l ≡ []
  unmap_nil f [] e = refl
  unmap_nil f (x ∷ l) e = absurd (let z : ◌≡◌ {A = ℕ} 0 1 = cc in omega arith)

  pub unmap_last : (f : A → B) (l : List A) (c : List B) (y : B) → map f l ≡ c ++ y ∷ []
      → (b : List A) × (x : A) × (l ≡ b ++ x ∷ []) × (map f b ≡ c) × (f x ≡ y)
  unmap_last f l c y e =
      let (b, a, p, q, r) = unmap_append f l c (y ∷ []) e in
      let (x, a', p', q', r') = unmap_cons f a y [] r in
      (b, x, p ∙ ap (λ z. b ++ z) (p' ∙ ap (λ z. x ∷ z) (unmap_nil f a' r')), q, q')
