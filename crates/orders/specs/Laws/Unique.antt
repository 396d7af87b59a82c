-- There is one tree: two forests that are right below the same beginning are equal.
use Rattle.std.specs.Prelude.{ℕ, ◌≤◌, ◌≡◌, refl, ◌↔◌, List, [], ◌∷◌, ◌++◌}
use Rattle.std.proofs.Common.{arith, sym, ap, subst, inl, inr}
use Rattle.kernel.specs.Rules.{JobSet}
use Rattle.orders.specs.Orders.{Label, Follows, Info, Forest, none, node, Sibling, Earlier, Ahead, InSequence, Exact, Below, Right}

-- an interval with a member is fixed by its members
same_ends : {P : ℕ → Type 0} (a b c d m : ℕ) → ((t : ℕ) → ((a ≤ t) × (t ≤ b)) ↔ P t) → ((t : ℕ) → ((c ≤ t) × (t ≤ d)) ↔ P t) → P m
    → (a ≡ c) × (b ≡ d)
same_ends a b c d m f g h =
    let in1 = (f m).1 h in
    let in2 = (g m).1 h in
    let low1 = (g a).1 ((f a).0 (omega arith)) in
    let high1 = (g b).1 ((f b).0 (omega arith)) in
    let low2 = (f c).1 ((g c).0 (omega arith)) in
    let high2 = (f d).1 ((g d).0 (omega arith)) in
    (omega arith, omega arith)

-- no two stand each before the other
opposed : (x y : Info) → Earlier x y → Earlier y x → ⊥
opposed x y (p, inl e) (q, s) = q e
opposed x y (p, inr h) (q, inl e) = p e
opposed x y (p, inr h) (q, inr g) = omega arith

-- the same labels
abbrev Covers : Forest → Forest → Type 0
Covers F G = (l : Label) → Sibling l F → Sibling l G

module _ (J : JobSet) where
  -- some run that has followed c goes on with a switch of this label
  abbrev pub Next : List Label → Label → Type 0
  Next c l = Follows J c l (λ s. Unit {0})

  -- siblings below c, perhaps not all of them
  pub record Part (c : List Label) (F : Forest) : Type 0 where
    pub made : (l : Label) → Sibling l F → Next c l
    pub sequence : InSequence F
    pub below : Below J c F

  pub part : (c : List Label) (F : Forest) → Right J c F → Part c F
  part c F R = record { made = λ l. (R.complete l).0; sequence = R.sequence; below = R.below }

module _ (J : JobSet) (c : List Label) where
  -- two exact switches with one label are one
  exact_same : (x y : Info) → Exact J c x → Exact J c y → x.label ≡ y.label → Next J c x.label → x ≡ y
  exact_same x y p q e n =
      let leaves = same_ends _ _ _ _ n.switch.tick p.leaves
      (subst (λ l. (t : ℕ) → ((y.earliest ≤ t) × (t ≤ y.latest)) ↔ Follows J c l (λ s. s.tick ≡ t)) (sym e) q.leaves)
      (record { switch = n.switch; makes = n.makes; label = n.label; has = refl }) in
      let starts = same_ends _ _ _ _ n.switch.start p.starts
      (subst (λ l. (t : ℕ) → ((y.earliest_start ≤ t) × (t ≤ y.latest_start)) ↔ Follows J c l (λ s. s.start ≡ t)) (sym e) q.starts)
      (record { switch = n.switch; makes = n.makes; label = n.label; has = refl }) in
      λ i. record { label = e i; earliest = leaves.0 i; latest = leaves.1 i; earliest_start = starts.0 i; latest_start = starts.1 i }

  module _ (x : Info) (below beside : Forest) (p : Part J c (node x below beside)) where
    pub head_follows : Next J c x.label
    head_follows = p.made x.label (inl refl)

    head_exact : Exact J c x
    unfolding Below
    head_exact = p.below.0

    pub part_below : Right J (c ++ x.label ∷ []) below
    unfolding Below
    part_below = record { complete = p.below.1.0; sequence = p.below.1.1; below = p.below.1.2 }

    pub part_beside : Part J c beside
    unfolding Below
    part_beside = record { made = λ l h. p.made l (inr h); sequence = p.sequence.1; below = p.below.2 }

  -- what stands ahead of siblings is earlier than each of them
  later : (F : Forest) (x y : Info) → Part J c F → Ahead y F → Exact J c x → Sibling x.label F → Earlier y x
  later none x y p a q h = elim h [ ]
  later (node z below beside) x y p a q (inl e) = subst (Earlier y) (exact_same z x (head_exact z below beside p) q e (head_follows z below beside p)) a.0
  later (node z below beside) x y p a q (inr h) = later beside x y (part_beside z below beside p) a.1 q h

  -- no later sibling has the label of the first
  pub alone : (x : Info) (below beside : Forest) → Part J c (node x below beside) → Sibling x.label beside → ⊥
  alone x below beside p h =
      let g = later beside x x (part_beside x below beside p) p.sequence.0 (head_exact x below beside p) h in
      opposed x x g g

  module _ (x y : Info) (below below' beside beside' : Forest) (p : Part J c (node x below beside)) (q : Part J c (node y below' beside')) where
    -- the first siblings are one: else each would stand before the other
    heads : Sibling x.label (node y below' beside') → Sibling y.label (node x below beside) → x ≡ y
    heads (inl e) g = exact_same x y (head_exact x below beside p) (head_exact y below' beside' q) (sym e) (head_follows x below beside p)
    heads (inr h) (inl e) = exact_same x y (head_exact x below beside p) (head_exact y below' beside' q) e (head_follows x below beside p)
    heads (inr h) (inr g) = absurd (opposed x y
        (later beside y x (part_beside x below beside p) p.sequence.0 (head_exact y below' beside' q) g)
        (later beside' x y (part_beside y below' beside' q) q.sequence.0 (head_exact x below beside p) h))

    -- and so the others have the same labels
    others : x.label ≡ y.label → Covers (node x below beside) (node y below' beside') → Covers beside beside'
    others e to l h = go (to l (inr h))
      where
        go : Sibling l (node y below' beside') → Sibling l beside'
        go (inr g) = g
        go (inl g) = absurd (alone x below beside p (rw (e, g) h))

module _ (J : JobSet) where
  same : (F G : Forest) (c : List Label) → Part J c F → Part J c G → Covers F G → Covers G F → F ≡ G
  same none none c p q to from = refl
  same none (node y below' beside') c p q to from = absurd (from y.label (inl refl))
  same (node x below beside) none c p q to from = absurd (to x.label (inl refl))
  same (node x below beside) (node y below' beside') c p q to from =
      let e : x ≡ y = heads J c x y below below' beside beside' p q (to x.label (inl refl)) (from y.label (inl refl)) in
      let d : List Label = c ++ x.label ∷ [] in
      let r : Right J d below = part_below J c x below beside p in
      let r' : Right J d below' = rw e (part_below J c y below' beside' q) in
      let down : below ≡ below' = same below below' d (part J d below r) (part J d below' r')
      (λ l h. (r'.complete l).1 ((r.complete l).0 h)) (λ l h. (r.complete l).1 ((r'.complete l).0 h)) in
      let across : beside ≡ beside' = same beside beside' c (part_beside J c x below beside p) (part_beside J c y below' beside' q)
      (others J c x y below below' beside beside' p q (ap (λ z. z.label) e) to)
      (others J c y x below' below beside' beside q p (ap (λ z. z.label) (sym e)) from) in
      λ i. node (e i) (down i) (across i)

  -- there is at most one tree below a beginning
  pub one_tree : (c : List Label) (F G : Forest) → Right J c F → Right J c G → F ≡ G
  one_tree c F G R R' = same F G c (part J c F R) (part J c G R')
      (λ l h. (R'.complete l).1 ((R.complete l).0 h)) (λ l h. (R.complete l).1 ((R'.complete l).0 h))
