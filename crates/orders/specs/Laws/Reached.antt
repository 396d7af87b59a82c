-- Runs and boxes: the runs whose order begins as a path of the walk does are exactly the points of the box at its end.
use Rattle.std.specs.Prelude.{◌≡◌, ℕ, suc, ◌≤◌, min, max, List, [], ◌∷◌, ◌++◌, map}
use Rattle.std.proofs.Math.Path.{refl, ap, ap₂}
use Rattle.std.proofs.Common.{sym, ◌∙◌, inl, inr, arith}
use Rattle.std.proofs.lemmas.List.{map-append}
use Rattle.std.proofs.Math.Seq.{append_snoc}
use Rattle.kernel.specs.Rules.{JobSet, Kind, Switch, Within, run_of}
use Rattle.kernel.specs.Laws.Tests.{if-lt}
use Rattle.kernel.specs.Laws.Control.{Lawful}
use Rattle.kernel.specs.Laws.Step.{State, Point, Out, present, step, switch_of, switches_from}
use Rattle.orders.specs.Orders.{Label, label_of, Makes, Follows, Exact}
use Rattle.orders.specs.Laws.Lists.{All, Any, Apart, all_zip, any_imp, one_of, unmap_last}
use Rattle.orders.specs.Laws.Box.{Box, In, Child, children, Sound, Has}
use Rattle.orders.specs.Laws.Child.{Fits, Place, out_of}
use Rattle.orders.specs.Laws.Exact.{complete, sound}
use Rattle.orders.specs.Laws.Walk.{label_for, info_for}
use Rattle.orders.specs.Laws.Siblings.{Before, siblings}

module _ (J : JobSet) where
  -- some run whose order begins with c goes on with these switches, to its end
  pub record GoesOn (c : List Label) (after : List Switch) : Type 0 where
    pub time : ℕ → ℕ → ℕ
    pub within : Within J time
    pub before : List Switch
    pub run : run_of J time ≡ before ++ after
    pub begins : map label_of before ≡ c

  goes_makes : (c : List Label) (s : Switch) (after : List Switch) → GoesOn c (s ∷ after) → Makes J c s
  goes_makes c s after g = record { time = g.time; within = g.within; before = g.before; after = after; run = g.run; begins = g.begins }

  pub makes_goes : (c : List Label) (s : Switch) (m : Makes J c s) → GoesOn c (s ∷ m.after)
  makes_goes c s m = record { time = m.time; within = m.within; before = m.before; run = m.run; begins = m.begins }

  -- one switch further
  onward : (c : List Label) (s : Switch) (after : List Switch) → GoesOn c (s ∷ after) → GoesOn (c ++ label_of s ∷ []) after
  onward c s after g = record {
    time = g.time;
    within = g.within;
    before = g.before ++ s ∷ [];
    run = rw (append_snoc g.before s after) g.run;
    begins = map-append label_of g.before (s ∷ []) ∙ ap (λ l. l ++ label_of s ∷ []) g.begins;
  }

  -- one switch back
  backward : (c : List Label) (l : Label) (after : List Switch) → GoesOn (c ++ l ∷ []) after → (s : Switch) × (label_of s ≡ l) × GoesOn c (s ∷ after)
  backward c l after g =
      let (b, s, p, q, r) = unmap_last label_of g.before c l g.begins in
      (s, r, record { time = g.time; within = g.within; before = b; run = g.run ∙ ap (λ l. l ++ after) p ∙ append_snoc b s after; begins = q })

module _ (J : JobSet) (f : ℕ) where
  -- the runs whose order begins with c are exactly the points of the box, each going on as its point does
  pub record Reached (c : List Label) (S : State) (B : Box) : Type 0 where
    pub arrive : (after : List Switch) → GoesOn J c after → (p : Point) × In J B p × (after ≡ switches_from J f S p)
    pub come : (p : Point) → In J B p → GoesOn J c (switches_from J f S p)

  -- s, with what comes after it, is a switch that the child has
  pub record Turns (x : Child) (s : Switch) (after : List Switch) : Type 0 where
    pub out : Out
    pub is : s ≡ switch_of J out
    pub rest : after ≡ switches_from J f out.state out.point
    pub has : Has J out x

  -- the runs whose order begins with c and goes on with the child's label are exactly the child's ticks of leaving, with its points
  pub record Taken (c : List Label) (x : Child) : Type 0 where
    pub arrive : (s : Switch) (after : List Switch) → GoesOn J c (s ∷ after) → label_of s ≡ label_for x → Turns x s after
    pub come : (t : ℕ) (q : Point) → Place J x t q → GoesOn J c (switch_of J (out_of J x t q) ∷ switches_from J f x.state q)

-- ---- from a child to its intervals, and to its box

module _ (J : JobSet) (x : Child) (F : Fits J x) where
  -- each point of the box has a tick of leaving
  place_of : (q : Point) → In J x.box q → (t : ℕ) × Place J x t q
  place_of q g =
      let e1 = F.from in
      let e2 = F.to in
      let e3 = F.span in
      let g1 = g.from in
      let g2 = g.to in
      (min q.start x.last, record { from = omega arith; to = omega arith; start = omega arith; point = g })

  -- the point that starts then and has the least left
  least_at : (s : ℕ) → x.box.from ≤ s → s ≤ x.box.to → In J x.box (record { start = s; left = x.box.least })
  least_at s h1 h2 = record { from = h1; to = h2; low = λ i k _ _. omega arith; high = F.order }

  -- each tick of leaving has a point
  place_at : (t : ℕ) → x.first ≤ t → t ≤ x.last → Place J x t (record { start = max t (J.release x.state.job); left = x.box.least })
  place_at t h1 h2 = record { from = h1; to = h2; start = refl; point = least_at _ (omega (arith, F.from)) (omega (arith, F.to)) }

  module _ (f : ℕ) (c : List Label) (K : Taken J f c x) where
    follows : (P : Switch → Type 0) (t : ℕ) (q : Point) → Place J x t q → P (switch_of J (out_of J x t q)) → Follows J c (label_for x) P
    follows P t q a h = record { switch = switch_of J (out_of J x t q); makes = goes_makes J c _ _ (K.come t q a); label = unfold switch_of in refl; has = h }

    pub child_follows : Follows J c (label_for x) (λ s. Unit {0})
    child_follows = follows (λ s. Unit {0}) _ _ (place_at x.first (omega arith) F.span) tt

    turns : (P : Switch → Type 0) (k : Follows J c (label_for x) P) → Turns J f x k.switch k.makes.after
    turns P k = K.arrive k.switch k.makes.after (makes_goes J c k.switch k.makes) k.label

    pub child_exact : Exact J c (info_for x)
    unfolding switch_of
    child_exact = record {
      leaves = λ t. (
        λ h. follows (λ s. s.tick ≡ t) t _ (place_at t h.0 h.1) refl,
        λ k. let T = turns _ k in
            let e : T.out.tick ≡ t = ap (λ (s : Switch). s.tick) (sym T.is) ∙ k.has in
            (omega (arith, T.has.from), omega (arith, T.has.to)),
      );
      starts = λ t. (
        λ h. let (u, a) = place_of _ (least_at t h.0 h.1) in follows (λ s. s.start ≡ t) u _ a refl,
        λ k. let T = turns _ k in
            let e : T.out.point.start ≡ t = ap (λ (s : Switch). s.start) (sym T.is) ∙ k.has in
            (omega (arith, T.has.point.from), omega (arith, T.has.point.to)),
      );
    }

    pub reached : Reached J f (c ++ label_for x ∷ []) x.state x.box
    unfolding switch_of
    reached = record {
      arrive = λ after g.
          let (s, e, h) = backward J c (label_for x) after g in
          let T = K.arrive s after h e in
          (T.out.point, T.has.point, T.rest ∙ ap (λ S. switches_from J f S T.out.point) (sym T.has.state));
      come = λ q g. let (t, a) = place_of q g in onward J c (switch_of J (out_of J x t q)) (switches_from J f x.state q) (K.come t q a);
    }

-- ---- from a box to its children

module _ (J : JobSet) where
  -- a switch has the label of the child that has it
  pub has_label : (o : Out) (x : Child) → Has J o x → label_for x ≡ label_of (switch_of J o)
  unfolding switch_of
  has_label o x h = ap₂ (λ (k : Kind) (S : State). record { kind = k; job = S.job; segment = present S }) h.kind h.state

  -- of siblings, only the one with the label of a switch can have it
  sole : (l : List Child) → Apart Before l → All (λ x. (o : Out) → label_of (switch_of J o) ≡ label_for x → Any (Has J o) l → Has J o x) l
  sole [] d = tt
  sole (x ∷ xs) d = (first, all_zip (Before x) _ _ other xs d.0 (sole xs d.1))
    where
      first : (o : Out) → label_of (switch_of J o) ≡ label_for x → Any (Has J o) (x ∷ xs) → Has J o x
      first o e (inl h) = h
      first o e (inr h) = absurd (one_of (Before x) (Has J o) ⊥ (λ y b g. b.differ (sym e ∙ sym (has_label o y g))) xs d.0 h)

      other : (y : Child) → Before x y → ((o : Out) → label_of (switch_of J o) ≡ label_for y → Any (Has J o) xs → Has J o y)
          → (o : Out) → label_of (switch_of J o) ≡ label_for y → Any (Has J o) (x ∷ xs) → Has J o y
      other y b k o e (inl h) = absurd (b.differ (has_label o x h ∙ e))
      other y b k o e (inr h) = k o e h

module _ (J : JobSet) (L : Lawful J) (f : ℕ) (c : List Label) (S : State) (B : Box) (O : Sound J S B) (R : Reached J (suc f) c S B) where
  next : (p : Point) → switches_from J (suc f) S p ≡ switch_of J (step J S p) ∷ switches_from J f (step J S p).state (step J S p).point
  unfolding switches_from
  next p = if-lt _ _ _ _ O.inside

  -- the point that makes the switch s next
  point_of : (s : Switch) (after : List Switch) → GoesOn J c (s ∷ after)
      → (p : Point) × In J B p × (s ≡ switch_of J (step J S p)) × (after ≡ switches_from J f (step J S p).state (step J S p).point)
  point_of s after g =
      let (p, i, e) = R.arrive (s ∷ after) g in
      let h = e ∙ next p in
      (p, i, cc, cc)

  pub taken : All (Taken J f c) (children J S B)
  taken = all_zip _ _ _ (λ x only from. record {
    arrive = λ s after g e. let (p, i, is, rest) = point_of s after g in
        record { out = step J S p; is = is; rest = rest; has = only (step J S p) (ap label_of (sym is) ∙ e) (complete J L S B O p i) };
    come = λ t q a. let C = from t q a in
        rw (next C.origin ∙ ap (λ o. switch_of J o ∷ switches_from J f o.state o.point) C.makes) at (R.come C.origin C.inside);
  }) (children J S B) (sole J (children J S B) (siblings J L S B O)) (sound J L S B O)

  -- whatever may follow is a child
  pub met : (s : Switch) (after : List Switch) → GoesOn J c (s ∷ after) → Any (λ x. label_for x ≡ label_of s) (children J S B)
  met s after g = let (p, i, is, rest) = point_of s after g in
      any_imp (Has J (step J S p)) _ (λ x h. has_label J (step J S p) x h ∙ ap label_of (sym is)) (children J S B) (complete J L S B O p i)
