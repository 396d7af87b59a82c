-- For readers: the ways down a right tree are the beginnings of orders, and its paths from root to leaf are the orders of runs, each once.
use Rattle.std.specs.Prelude.{ℕ, ◌+◌, ◌≡◌, ◌↔◌, Bool, cond, T, length}
use Rattle.std.proofs.Common.{arith, sym, ◌∙◌, inr, length-append}
use Rattle.std.proofs.Math.Path.{refl, ap, ap₂, subst}
use Rattle.std.proofs.Math.Logic.{inl}
use Rattle.std.proofs.Math.Bool.{true, false}
use mathlib.Core.List.{List, [], ◌∷◌, ◌++◌, map, map-append, append_assoc, append-nil}
use Rattle.std.proofs.lemmas.List.{length-map}
use Rattle.kernel.specs.Rules.{JobSet, Within, run_of}
use Rattle.kernel.specs.Laws.Control.{Lawful}
use Rattle.orders.specs.Orders.{Label, label_of, order_of, Info, Forest, none, node, size, Sibling, Right, TreeOf}
use Rattle.orders.specs.Nodes.{orders}
use Rattle.orders.specs.Laws.Lists.{All, Any, Apart, all_map, any_imp, all_append, any_left, any_right, apart_map, all_of, apart_append, all_of_map, any_of_map, apart_of_map, one_of, unmap_append, unmap_cons}
use Rattle.orders.specs.Laws.Unique.{Next, Part, part, head_follows, part_below, part_beside, alone}
use Rattle.orders.specs.Laws.Ending.{EveryRunEnds, Ended, no_further, run_ended}

-- ---- ways down

abbrev here : Bool → Label → List (List Label)
here b l = cond b ((l ∷ []) ∷ []) []

-- the labels of each way down to a node, where `stop` holds of what stands below that node
unfoldable pub down_to : (Forest → Bool) → Forest → List (List Label)
down_to stop none = []
down_to stop (node x below beside) = here (stop below) x.label ++ (map (λ ys. x.label ∷ ys) (down_to stop below) ++ down_to stop beside)

-- nothing stands here
abbrev pub bare : Forest → Bool
bare none = true
bare (node x below beside) = false

-- from the root down to each node
abbrev pub ways : Forest → List (List Label)
ways = down_to (λ F. true)

-- from the root down to each leaf
abbrev pub paths : Forest → List (List Label)
paths = down_to bare

abbrev pub Listed : List Label → List (List Label) → Type 0
Listed xs = Any (λ ys. ys ≡ xs)

-- none stands twice in the list
abbrev pub Once : List (List Label) → Type 0
Once = Apart (λ xs ys. xs ≡ ys → ⊥)

-- ---- orders and their beginnings

module _ (J : JobSet) where
  -- xs is the order of some run
  abbrev pub Order : List Label → Type 0
  Order xs = (time : ℕ → ℕ → ℕ) × Within J time × (order_of J time ≡ xs)

  -- the order of some run begins with xs
  abbrev pub Begins : List Label → Type 0
  Begins xs = (ys : List Label) × Order (xs ++ ys)

  order_begins : (xs : List Label) → Order xs → Begins xs
  order_begins xs o = ([], rw (append-nil xs) o)

module _ (J : JobSet) (c : List Label) where
  next_begins : (l : Label) → Next J c l → Begins J (c ++ l ∷ [])
  next_begins l n =
      let m = n.makes in (
        map label_of m.after,
        (
          m.time,
          m.within,
          ap (map label_of) m.run ∙ map-append label_of m.before (n.switch ∷ m.after)
              ∙ ap₂ (λ (b : List Label) (k : Label). b ++ k ∷ map label_of m.after) m.begins n.label
              ∙ sym (append_assoc c (l ∷ []) (map label_of m.after)),
        ),
      )

  begins_next : (l : Label) (ls : List Label) → Begins J (c ++ l ∷ ls) → Next J c l
  begins_next l ls (ys, (time, within, e)) =
      let (b, a, p, q, r) = unmap_append label_of (run_of J time) c (l ∷ ls ++ ys) (e ∙ append_assoc c (l ∷ ls) ys) in
      let (s, a', p', q', r') = unmap_cons label_of a l (ls ++ ys) r in
      record { switch = s; makes = record { time = time; within = within; before = b; after = a'; run = rw p' at p; begins = q }; label = q'; has = tt }

-- ---- what is listed

nonempty : (l : Label) (ls : List Label) → l ∷ ls ≡ [] → ⊥
nonempty l ls e = let z : ◌≡◌ {A = ℕ} 0 1 = cc in omega arith

all_here : (Q : List Label → Type 0) (b : Bool) (l : Label) → (T b → Q (l ∷ [])) → All Q (here b l)
all_here Q true l h = (h tt, tt)
all_here Q false l h = tt

any_here : (b : Bool) (l : Label) → T b → Listed (l ∷ []) (here b l)
any_here true l h = inl refl
any_here false l h = absurd h

-- P holds of the labels of a way down a right tree exactly where `stop` holds of what stands below it
record Tells (J : JobSet) (stop : Forest → Bool) (P : List Label → Type 0) : Type 0 where
  stops : (c : List Label) (l : Label) (below : Forest) → Next J c l → Right J (c ++ l ∷ []) below → T (stop below) ↔ P (c ++ l ∷ [])
  begins : (xs : List Label) → P xs → Begins J xs

module _ (J : JobSet) (stop : Forest → Bool) (P : List Label → Type 0) (K : Tells J stop P) where
  -- below c: one switch or more, and P holds of the whole way
  abbrev Told : List Label → List Label → Type 0
  Told c xs = P (c ++ xs) × (xs ≡ [] → ⊥)

  all_fit : (F : Forest) (c : List Label) → Part J c F → All (Told c) (down_to stop F)
  unfolding down_to
  all_fit none c p = tt
  all_fit (node x below beside) c p =
      let l = x.label in
      let R = part_below J c x below beside p in
      all_append (Told c) (here (stop below) l) _
      (all_here (Told c) (stop below) l (λ t. ((K.stops c l below (head_follows J c x below beside p) R).0 t, nonempty l [])))
      (all_append (Told c) (map (λ ys. l ∷ ys) (down_to stop below)) (down_to stop beside)
      (all_of_map (λ ys. l ∷ ys) (Told c) (down_to stop below)
      (all_map (Told (c ++ l ∷ [])) _ (λ ys h. (rw append_assoc at h.0, nonempty l ys)) (down_to stop below) (all_fit below (c ++ l ∷ []) (part J _ below R))))
      (all_fit beside c (part_beside J c x below beside p)))

  found : (F : Forest) (c : List Label) (l : Label) (ls : List Label) → Part J c F → Sibling l F → P (c ++ l ∷ ls) → Listed (l ∷ ls) (down_to stop F)
  unfolding down_to
  found none c l ls p h g = elim h [ ]
  found (node x below beside) c l ls p (inr h) g =
      any_right _ (here (stop below) x.label) _ (any_right _ (map (λ ys. x.label ∷ ys) (down_to stop below)) (down_to stop beside)
      (found beside c l ls (part_beside J c x below beside p) h g))
  found (node x below beside) c l [] p (inl e) g =
      any_left _ (here (stop below) x.label) _ (any_imp _ _ (λ ys q. q ∙ ap (λ m. m ∷ []) e) (here (stop below) x.label)
      (any_here (stop below) x.label
      ((K.stops c x.label below (head_follows J c x below beside p) (part_below J c x below beside p)).1 (rw e g))))
  found (node x below beside) c l (m ∷ ms) p (inl e) g =
      let d = c ++ x.label ∷ [] in
      let R = part_below J c x below beside p in
      let g' : P (d ++ m ∷ ms) = rw (append_assoc c (x.label ∷ []) (m ∷ ms), e) g in
      any_right _ (here (stop below) x.label) _ (any_left _ (map (λ ys. x.label ∷ ys) (down_to stop below)) (down_to stop beside)
      (any_of_map (λ ys. x.label ∷ ys) _ (down_to stop below) (any_imp _ _ (λ ys q. ap₂ (λ (k : Label) (r : List Label). k ∷ r) e q) (down_to stop below)
      (found below d m ms (part J d below R) ((R.complete m).1 (begins_next J d m ms (K.begins _ g'))) g'))))

  listed : (F : Forest) → TreeOf J F → (xs : List Label) → Listed xs (down_to stop F) ↔ (P xs × (xs ≡ [] → ⊥))
  listed F R xs = (
    λ h. one_of (Told []) (λ ys. ys ≡ xs) (Told [] xs) (λ ys f e. subst (Told []) e f) (down_to stop F) (all_fit F [] (part J [] F R)) h,
    back xs,
  )
    where
      back : (xs : List Label) → P xs × (xs ≡ [] → ⊥) → Listed xs (down_to stop F)
      back [] (h, n) = absurd (n refl)
      back (l ∷ ls) (h, n) = found F [] l ls (part J [] F R) ((R.complete l).1 (begins_next J [] l ls (K.begins _ h))) h

-- ---- once

-- the first label is a sibling's
abbrev Heads : Forest → List Label → Type 0
Heads F [] = ⊥
Heads F (l ∷ ls) = Sibling l F

wider : (x : Info) (below beside : Forest) (xs : List Label) → Heads beside xs → Heads (node x below beside) xs
wider x below beside [] h = h
wider x below beside (l ∷ ls) h = inr h

module _ (stop : Forest → Bool) where
  all_heads : (F : Forest) → All (Heads F) (down_to stop F)
  unfolding down_to
  all_heads none = tt
  all_heads (node x below beside) =
      let H = Heads (node x below beside) in
      all_append H (here (stop below) x.label) _ (all_here H (stop below) x.label (λ t. inl refl))
      (all_append H (map (λ ys. x.label ∷ ys) (down_to stop below)) (down_to stop beside)
      (all_of_map (λ ys. x.label ∷ ys) H (down_to stop below) (all_of _ (λ ys. inl refl) (down_to stop below)))
      (all_map (Heads beside) H (wider x below beside) (down_to stop beside) (all_heads beside)))

  once : (J : JobSet) (F : Forest) (c : List Label) → Part J c F → Once (down_to stop F)
  unfolding down_to
  once J none c p = tt
  once J (node x below beside) c p =
      let l = x.label in
      let down = map (λ ys. l ∷ ys) (down_to stop below) in
      let far : (ys : List Label) → All (λ zs. l ∷ ys ≡ zs → ⊥) (down_to stop beside)
      = λ ys. all_map (Heads beside) _ (λ zs h e. alone J c x below beside p (subst (Heads beside) (sym e) h)) (down_to stop beside) (all_heads beside) in
      apart_append _ (here (stop below) l) (down ++ down_to stop beside) (single (stop below) l)
      (apart_append _ down (down_to stop beside)
      (apart_of_map (λ ys. l ∷ ys) _ (down_to stop below)
      (apart_map _ _ (λ ys zs n e. n (cc)) (down_to stop below) (once J below (c ++ l ∷ []) (part J _ below (part_below J c x below beside p)))))
      (once J beside c (part_beside J c x below beside p))
      (all_of_map (λ ys. l ∷ ys) _ (down_to stop below) (all_of _ far (down_to stop below))))
      (all_here _ (stop below) l (λ t. all_append _ down (down_to stop beside)
      (all_of_map (λ ys. l ∷ ys) _ (down_to stop below)
      (all_map (Heads below) _ (λ ys h e. subst (Heads below) (longer l ys e) h) (down_to stop below) (all_heads below)))
      (far [])))
    where
      single : (b : Bool) (l : Label) → Once (here b l)
      single true l = (tt, tt)
      single false l = tt

      longer : (l : Label) (ys : List Label) → l ∷ [] ≡ l ∷ ys → ys ≡ []
      longer l ys e = cc

-- ---- how many

count : (stop : Forest → Bool) (x : Info) (below beside : Forest)
    → length (down_to stop (node x below beside)) ≡ length (here (stop below) x.label) + (length (down_to stop below) + length (down_to stop beside))
unfolding down_to
count stop x below beside = simp (length-append, length-map)

pub ways_count : (F : Forest) → length (ways F) ≡ size F
unfolding size
ways_count none = unfold down_to in refl
ways_count (node x below beside) = omega (arith, count (λ F. true) x below beside, ways_count below, ways_count beside)

pub paths_count : (F : Forest) → length (paths F) ≡ orders F
unfolding orders
paths_count none = unfold down_to in refl
paths_count (node x none beside) = omega (arith, count bare x none beside, paths_count none, paths_count beside)
paths_count (node x (node y below later) beside) =
    omega (arith, count bare x (node y below later) beside, paths_count (node y below later), paths_count beside)

-- ---- ways and beginnings, paths and orders

module _ (J : JobSet) (F : Forest) (R : TreeOf J F) where
  -- the ways down to a node are the beginnings of orders, of one switch or more
  pub beginnings_are_ways : (xs : List Label) → Listed xs (ways F) ↔ (Begins J xs × (xs ≡ [] → ⊥))
  beginnings_are_ways = listed J (λ G. true) (Begins J) (record { stops = λ c l below n Q. (λ t. next_begins J c l n, λ b. tt); begins = λ xs b. b }) F R

  pub ways_once : Once (ways F)
  ways_once = once (λ G. true) J F [] (part J [] F R)

  pub paths_once : Once (paths F)
  paths_once = once bare J F [] (part J [] F R)

module _ (J : JobSet) (L : Lawful J) (end : EveryRunEnds J) where
  order_ended : (xs : List Label) → Order J xs → Ended J.jobs xs
  order_ended xs (time, within, e) = subst (Ended J.jobs) e (run_ended J L time (end time within))

  -- where nothing follows, the run is over
  leaf : (c : List Label) (l : Label) (below : Forest) → Next J c l → Right J (c ++ l ∷ []) below → T (bare below) → Order J (c ++ l ∷ [])
  leaf c l none n R t = go (next_begins J c l n).0 (next_begins J c l n).1
    where
      go : (ys : List Label) → Order J (c ++ l ∷ [] ++ ys) → Order J (c ++ l ∷ [])
      go [] o = rw append-nil at o
      go (m ∷ ms) o = absurd ((R.complete m).1 (begins_next J (c ++ l ∷ []) m ms (order_begins J _ o)))
  leaf c l (node y below beside) n R t = absurd t

  -- where the run is over, nothing follows
  last : (c : List Label) (l : Label) (below : Forest) → Right J (c ++ l ∷ []) below → Order J (c ++ l ∷ []) → T (bare below)
  last c l none R o = tt
  last c l (node y below beside) R o =
      let d = c ++ l ∷ [] in
      let (ys, b) = next_begins J d y.label ((R.complete y.label).0 (inl refl)) in
      no_further J.jobs d y.label ys (order_ended d o) (rw (append_assoc d (y.label ∷ []) ys) at (order_ended _ b))

  -- the ways down to a leaf are the orders
  pub orders_are_paths : (F : Forest) → TreeOf J F → (xs : List Label) → Listed xs (paths F) ↔ Order J xs
  orders_are_paths F R xs =
      let K = listed J bare (Order J) (record { stops = λ c l below n Q. (leaf c l below n Q, last c l below Q); begins = order_begins J }) F R xs in
      (λ h. (K.0 h).0, λ o. K.1 (o, λ e. subst (Ended J.jobs) e (order_ended xs o)))
