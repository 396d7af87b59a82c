-- The walk's tree is the tree of all orders.
use Rattle.std.specs.Prelude.{◌≡◌, refl, ℕ, zero, suc, ◌≤◌, ◌<◌}
use Rattle.std.proofs.Common.{sym, ap, ◌∙◌, subst, arith}
use Rattle.std.proofs.Math.Logic.{inl, inr}
use mathlib.Core.List.{List, [], ◌∷◌, ◌++◌}
use Rattle.kernel.specs.Rules.{JobSet, Switch, Within, run_of}
use Rattle.kernel.specs.Laws.Tests.{split, if-lt, if-ge}
use Rattle.kernel.specs.Laws.Control.{Lawful}
use Rattle.kernel.specs.Laws.Fall.{potential}
use Rattle.kernel.specs.Laws.Step.{State, Point, switch_of, switches_from, first_tick, first_state, first_out}
use Rattle.orders.specs.Orders.{Label, label_of, Forest, Sibling, Ahead, InSequence, Exact, Below, Right, TreeOf}
use Rattle.orders.specs.Laws.Lists.{All, Any, Apart, all_zip, one_of, unmap_nil}
use Rattle.orders.specs.Laws.Unique.{Next}
use Rattle.orders.specs.Laws.Box.{Box, Child, children, Sound}
use Rattle.orders.specs.Laws.Child.{Owes, Fits, Place, out_of}
use Rattle.orders.specs.Laws.Exact.{fits}
use Rattle.orders.specs.Laws.Walk.{label_for, info_for, hang, following, grow, first_child, enough, the_tree}
use Rattle.orders.specs.Laws.Siblings.{Before, siblings}
use Rattle.orders.specs.Laws.Reached.{GoesOn, makes_goes, Reached, Turns, Taken, child_follows, child_exact, reached, has_label, taken, met}
use Rattle.orders.specs.Laws.First.{first_fits, first_enough}

-- ---- siblings of which each is right

module _ (J : JobSet) (c : List Label) (below : State → Box → Forest) where
  -- a child that may follow c, with its intervals and what stands below it
  record Stands (x : Child) : Type 0 where
    made : Next J c (label_for x)
    exact : Exact J c (info_for x)
    right : Right J (c ++ label_for x ∷ []) (below x.state x.box)

  sibling_child : (l : List Child) (k : Label) → Sibling k (hang below l) → Any (λ x. label_for x ≡ k) l
  unfolding hang
  sibling_child [] k h = h
  sibling_child (x ∷ xs) k (inl e) = inl e
  sibling_child (x ∷ xs) k (inr h) = inr (sibling_child xs k h)

  child_sibling : (l : List Child) (k : Label) → Any (λ x. label_for x ≡ k) l → Sibling k (hang below l)
  unfolding hang
  child_sibling [] k h = elim h [ ]
  child_sibling (x ∷ xs) k (inl e) = inl e
  child_sibling (x ∷ xs) k (inr h) = inr (child_sibling xs k h)

  hang_ahead : (x : Child) (l : List Child) → All (Before x) l → Ahead (info_for x) (hang below l)
  unfolding hang
  hang_ahead x [] h = tt
  hang_ahead x (y ∷ ys) h = (h.0.earlier, hang_ahead x ys h.1)

  hang_sequence : (l : List Child) → Apart Before l → InSequence (hang below l)
  unfolding hang
  hang_sequence [] h = tt
  hang_sequence (x ∷ xs) h = (hang_ahead x xs h.0, hang_sequence xs h.1)

  hang_below : (l : List Child) → All Stands l → Below J c (hang below l)
  unfolding hang Below
  hang_below [] h = tt
  hang_below (x ∷ xs) h = let R = h.0.right in (h.0.exact, (R.complete, R.sequence, R.below), hang_below xs h.1)

  hang_right : (l : List Child) → Apart Before l → All Stands l
      → ((s : Switch) (after : List Switch) → GoesOn J c (s ∷ after) → Any (λ x. label_for x ≡ label_of s) l) → Right J c (hang below l)
  hang_right l apart all met = record {
    complete = λ k. (
      λ h. one_of Stands (λ x. label_for x ≡ k) (Next J c k) (λ x S e. subst (Next J c) e S.made) l all (sibling_child l k h),
      λ n. child_sibling l k (subst (λ m. Any (λ x. label_for x ≡ m) l) n.label (met n.switch _ (makes_goes J c n.switch n.makes))),
    );
    sequence = hang_sequence l apart;
    below = hang_below l all;
  }

  -- where no run goes on
  hang_nothing : (f : ℕ) (S : State) (B : Box) → Reached J f c S B → ((p : Point) → switches_from J f S p ≡ []) → Right J c (hang below [])
  hang_nothing f S B R stop = hang_right [] tt tt (λ s after g.
      let (p, i, e) = R.arrive (s ∷ after) g in
      let h = e ∙ stop p in
      let z : ◌≡◌ {A = ℕ} 0 1 = cc in
      omega arith)

-- ---- what grows below a box is right

module _ (J : JobSet) (L : Lawful J) where
  abbrev Grows : ℕ → Type 0
  Grows f = (c : List Label) (S : State) (B : Box) → Owes J S B → Reached J f c S B → Right J c (grow J f S B)

  stand : (f : ℕ) → Grows f → (c : List Label) (x : Child) → Fits J x → Taken J f c x → Stands J c (grow J f) x
  stand f right c x F K = record {
    made = child_follows J x F f c K;
    exact = child_exact J x F f c K;
    right = right (c ++ label_for x ∷ []) x.state x.box F.kept (reached J x F f c K);
  }

  grow_step : (f : ℕ) → Grows f → Grows (suc f)
  unfolding grow following
  grow_step f right c S B owes R = split S.job J.jobs
      (λ (h : S.job < J.jobs).
      let O : Sound J S B = owes h in
      rw (if-lt S.job J.jobs (children J S B) [] h) (hang_right J c (grow J f) (children J S B) (siblings J L S B O)
      (all_zip (Fits J) (Taken J f c) _ (stand f right c) (children J S B) (fits J L S B O) (taken J L f c S B O R)) (met J L f c S B O R)))
      (λ (h : J.jobs ≤ S.job). rw (if-ge S.job J.jobs (children J S B) [] h)
      (hang_nothing J c (grow J f) (suc f) S B R (λ p. unfold switches_from in if-ge _ _ _ _ h)))

  grow_right : (f : ℕ) → Grows f
  grow_right zero c S B owes R = unfold grow hang in hang_nothing J c (grow J 0) 0 S B R (λ p. unfold switches_from in refl)
  grow_right (suc f) c S B owes R = grow_step f (grow_right f) c S B owes R

-- ---- from the first switch on

-- a run goes from switch to switch: its first dispatch, and then as many as there can be
abbrev pub RunSteps : JobSet → Type 0
RunSteps J = (time : ℕ → ℕ → ℕ) → Within J time → (f : ℕ) → potential J (first_state J).control ≤ f
    → run_of J time ≡ switch_of J (first_out J time) ∷ switches_from J f (first_state J) (first_out J time).point

module _ (J : JobSet) (L : Lawful J) (steps : RunSteps J) where
  abbrev steps_of : (time : ℕ → ℕ → ℕ) → Within J time
      → run_of J time ≡ switch_of J (first_out J time) ∷ switches_from J (enough J) (first_state J) (first_out J time).point
  steps_of time w = steps time w (enough J) (first_enough J L)

  first_turns : (s : Switch) (after : List Switch) → GoesOn J [] (s ∷ after) → Turns J (enough J) (first_child J) s after
  first_turns s after g =
      let run = ap (λ l. l ++ s ∷ after) (sym (unmap_nil label_of g.before g.begins)) ∙ sym g.run ∙ steps_of g.time g.within in
      record {
        out = first_out J g.time;
        is = cc;
        rest = cc;
        has = record {
          kind = refl;
          state = refl;
          from = omega arith;
          to = omega arith;
          point = record { from = omega arith; to = omega arith; low = g.within.low; high = g.within.high };
        };
      }

  first_come : (t : ℕ) (q : Point) → Place J (first_child J) t q
      → GoesOn J [] (switch_of J (out_of J (first_child J) t q) ∷ switches_from J (enough J) (first_state J) q)
  first_come t q a =
      let w : Within J q.left = record { low = a.point.low; high = a.point.high } in
      let e : first_tick J ≡ t = omega (arith, a.from, a.to) in
      let d : first_tick J ≡ q.start = omega (arith, a.point.from, a.point.to) in
      let same : switch_of J (first_out J q.left) ∷ switches_from J (enough J) (first_state J) (first_out J q.left).point
      ≡ switch_of J (out_of J (first_child J) t q) ∷ switches_from J (enough J) (first_state J) q
      = λ i. let p : Point = record { start = d i; left = q.left } in switch_of J (out_of J (first_child J) (e i) p) ∷ switches_from J (enough J) (first_state J) p in
      record { time = q.left; within = w; before = []; run = steps_of q.left w ∙ same; begins = refl }

  first_taken : Taken J (enough J) [] (first_child J)
  first_taken = record { arrive = λ s after g e. first_turns s after g; come = first_come }

  first_met : (s : Switch) (after : List Switch) → GoesOn J [] (s ∷ after) → Any (λ x. label_for x ≡ label_of s) (first_child J ∷ [])
  first_met s after g = let T = first_turns s after g in inl (has_label J T.out (first_child J) T.has ∙ ap label_of (sym T.is))

  pub the_tree_lem : TreeOf J (the_tree J)
  unfolding the_tree
  the_tree_lem = hang_right J [] (grow J (enough J)) (first_child J ∷ []) (tt, tt)
      (stand J L (enough J) (grow_right J L (enough J)) [] (first_child J) (first_fits J L) first_taken, tt) first_met
