-- What the tree of all orders is (paper 01, 'The tree'), said of the runs of the kernel's rules and of nothing else.
use Rattle.std.specs.Prelude.{ℕ, suc, ◌+◌, ◌≤◌, ◌<◌, ◌≡◌, ◌⊎◌, ◌↔◌, List, [], ◌∷◌, ◌++◌, map}
use Rattle.kernel.specs.Rules.{JobSet, Kind, CUT, Switch, Within, run_of}

-- ---- orders

-- a switch without its ticks: an order is a run's log without the ticks
pub record Label : Type 0 where
  pub kind : Kind
  pub job : ℕ
  pub segment : ℕ

abbrev pub label_of : Switch → Label
label_of s = record { kind = s.kind; job = s.job; segment = s.segment }

-- the order of the run with these times
abbrev pub order_of : JobSet → (ℕ → ℕ → ℕ) → List Label
order_of J time = map label_of (run_of J time)

module _ (J : JobSet) where
  -- some run whose order begins with c makes the switch s next
  pub record Makes (c : List Label) (s : Switch) : Type 0 where
    pub time : ℕ → ℕ → ℕ
    pub within : Within J time
    pub before : List Switch
    pub after : List Switch
    pub run : run_of J time ≡ before ++ s ∷ after
    pub begins : map label_of before ≡ c

  -- some run whose order begins with c makes next a switch with this label, of which P holds
  pub record Follows (c : List Label) (l : Label) (P : Switch → Type 0) : Type 0 where
    pub switch : Switch
    pub makes : Makes c switch
    pub label : label_of switch ≡ l
    pub has : P switch

-- ---- the tree as data: of a beginning, the first switch that may follow it with what stands below that, and the later siblings

-- a switch of the tree, with its four ticks
pub record Info : Type 0 where
  pub label : Label
  pub earliest : ℕ
  pub latest : ℕ
  pub earliest_start : ℕ
  pub latest_start : ℕ

pub data Forest : Type 0 where
  none : Forest
  node : Info → (below beside : Forest) → Forest

-- how many nodes
unfoldable pub size : Forest → ℕ
size none = 0
size (node x below beside) = suc (size below + size beside)

-- its nodes in number order, down before across, each with its parent's number
unfoldable pub numbered : (parent at : ℕ) → Forest → List (ℕ × Info)
numbered parent at none = []
numbered parent at (node x below beside) = (parent, x) ∷ (numbered at (at + 1) below ++ numbered parent (at + 1 + size below) beside)

-- ---- when a tree is right

-- l is the label of one of the siblings
abbrev pub Sibling : Label → Forest → Type 0
Sibling l none = ⊥
Sibling l (node x below beside) = (x.label ≡ l) ⊎ Sibling l beside

-- END and STEP before CUT; among END and STEP by earliest tick of leaving
abbrev pub Earlier : Info → Info → Type 0
Earlier x y = ((x.label.kind ≡ CUT) → ⊥) × ((y.label.kind ≡ CUT) ⊎ (x.earliest < y.earliest))

-- x comes before all the siblings
abbrev pub Ahead : Info → Forest → Type 0
Ahead x none = Unit {0}
Ahead x (node y below beside) = Earlier x y × Ahead x beside

abbrev pub InSequence : Forest → Type 0
InSequence none = Unit {0}
InSequence (node x below beside) = Ahead x beside × InSequence beside

module _ (J : JobSet) where
  -- the siblings below c are exactly the switches that may follow c
  abbrev pub Complete : List Label → Forest → Type 0
  Complete c F = (l : Label) → Sibling l F ↔ Follows J c l (λ s. Unit {0})

  -- the ticks of a switch's intervals are exactly those at which some run that has followed the path makes the switch, and starts what it names
  pub record Exact (c : List Label) (x : Info) : Type 0 where
    pub leaves : (t : ℕ) → ((x.earliest ≤ t) × (t ≤ x.latest)) ↔ Follows J c x.label (λ s. s.tick ≡ t)
    pub starts : (t : ℕ) → ((x.earliest_start ≤ t) × (t ≤ x.latest_start)) ↔ Follows J c x.label (λ s. s.start ≡ t)

  -- each sibling is exact, and what stands below it is right
  unfoldable pub Below : List Label → Forest → Type 0
  Below c none = Unit {0}
  Below c (node x below beside) =
      Exact c x × (Complete (c ++ x.label ∷ []) below × InSequence below × Below (c ++ x.label ∷ []) below) × Below c beside

  -- F is the tree below the beginning c
  pub record Right (c : List Label) (F : Forest) : Type 0 where
    pub complete : Complete c F
    pub sequence : InSequence F
    pub below : Below c F

  -- the tree of all orders
  abbrev pub TreeOf : Forest → Type 0
  TreeOf = Right []
