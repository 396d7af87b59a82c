-- The spans of a leaving: each tick lies in one, all its ticks dispatch its job, and the weights of the jobs rise from span to span.
use Rattle.std.specs.Prelude.{◌≡◌, [], ◌∷◌}
use Rattle.std.proofs.Math.Path.{refl, sym, ap}
use Rattle.std.proofs.Common.{◌∙◌, arith, inl, inr}
use Prim.Native.Nat.{ℕ, zero, suc, ◌+◌, ◌-◌, ◌≤◌, ◌<◌}
use Rattle.kernel.specs.Rules.{JobSet}
use Rattle.kernel.specs.Laws.Tests.{split, if-lt, if-ge}
use Rattle.kernel.specs.Laws.Pick.{Disp, Above, first_above_law, disp, group, group_end}
use Rattle.kernel.specs.Laws.Control.{Lawful, Control, weight, after, above, released}
use Rattle.kernel.specs.Laws.Step.{State, cut_tick}
use Rattle.orders.specs.Laws.Lists.{All, Any, Apart, all_map}
use Rattle.orders.specs.Laws.Box.{Box, Span, spans, late, latest, Sound}

-- the tick lies in the span
abbrev pub Holds : ℕ → Span → Type 0
Holds t s = (s.first ≤ t) × (t ≤ s.last)

module _ (J : JobSet) (κ : Control) where
  -- one of the spans from t0 to top
  pub record SpanOk (t0 top : ℕ) (s : Span) : Type 0 where
    pub low : t0 ≤ s.first
    pub order : s.first ≤ s.last
    pub high : s.last ≤ top
    pub same : (t : ℕ) → s.first ≤ t → t ≤ s.last → Disp J.jobs J.release (weight J κ) t s.job
    pub rise : weight J κ (after J κ t0) ≤ weight J κ s.job

  -- a span, and a later one
  pub record Rises (s s' : Span) : Type 0 where
    pub later : s.first < s'.first
    pub heavier : weight J κ s.job < weight J κ s'.job

  -- where the span that begins at t is over
  abbrev pub reach : (top t : ℕ) → ℕ
  reach top t = above J κ t (weight J κ (after J κ t)) (suc top)

  abbrev pub span : (top t : ℕ) → Span
  span top t = record { first = t; last = reach top t - 1; job = after J κ t }

  -- ---- the spans one by one

  pub spans_end : (top f t : ℕ) → top < t → spans J κ top f t ≡ []
  unfolding spans
  spans_end top zero t h = refl
  spans_end top (suc f) t h = if-lt _ _ _ _ h

  pub spans_next : (top f t : ℕ) → t ≤ top → spans J κ top (suc f) t ≡ span top t ∷ spans J κ top f (reach top t)
  unfolding spans
  spans_next top f t h = if-ge _ _ _ _ h

module _ (J : JobSet) (L : Lawful J) (κ : Control) where
  abbrev pub above_law : (a w e : ℕ) → Above J.release (weight J κ) a w e J.jobs (above J κ a w e)
  above_law = first_above_law _ _ _ (released J L κ)

  pub above_after : (a w e : ℕ) → a < e → a < above J κ a w e
  above_after a w e h =
      let x : ℕ = above J κ a w e in
      split x e (λ (q : x < e). let (i, a1, a2, a3, a4) = (above_law a w e).hit q in omega arith) (λ (q : e ≤ x). omega arith)

  span_ok : (top t : ℕ) → t ≤ top → SpanOk J κ t top (span J κ top t)
  span_ok top t h =
      let q : t < reach J κ top t = above_after t _ (suc top) (omega arith) in
      record {
        low = omega arith;
        order = omega arith;
        high = omega (arith, (above_law t (weight J κ (after J κ t)) (suc top)).le);
        same = λ u h1 h2. group _ _ _ (released J L κ) t (after J κ t) (suc top) u (disp _ _ _ (released J L κ) t) h1 (omega arith);
        rise = omega arith;
      }

  -- what comes after the first span is later and heavier
  span_rises : (top t : ℕ) → t ≤ top → (s : Span) → SpanOk J κ (reach J κ top t) top s → Rises J κ (span J κ top t) s
  span_rises top t h s o =
      let x : ℕ = reach J κ top t in
      let q : t < x = above_after t _ (suc top) (omega arith) in
      let g : weight J κ (after J κ t) < weight J κ (after J κ x)
      = group_end _ _ _ (released J L κ) t (after J κ t) (suc top) _ (omega (arith, o.low, o.order, o.high)) (disp _ _ _ (released J L κ) x) in
      record { later = omega (arith, o.low); heavier = omega (arith, o.rise) }

  span_down : (top t : ℕ) → t ≤ top → (s : Span) → SpanOk J κ (reach J κ top t) top s → SpanOk J κ t top s
  span_down top t h s o =
      let r = span_rises top t h s o in
      let q : t < reach J κ top t = above_after t _ (suc top) (omega arith) in
      record { low = omega (arith, o.low); order = o.order; high = o.high; same = o.same; rise = omega (arith, r.heavier) }

  pub spans_ok : (top f t : ℕ) → All (SpanOk J κ t top) (spans J κ top f t)
  spans_ok top zero t = unfold spans in tt
  spans_ok top (suc f) t = split top t
      (λ h. rw (spans_end J κ top (suc f) t h) tt)
      (λ h. rw (spans_next J κ top f t h)
      (span_ok top t h, all_map _ _ (span_down top t h) (spans J κ top f (reach J κ top t)) (spans_ok top f (reach J κ top t))))

  pub spans_rise : (top f t : ℕ) → Apart (Rises J κ) (spans J κ top f t)
  spans_rise top zero t = unfold spans in tt
  spans_rise top (suc f) t = split top t
      (λ h. rw (spans_end J κ top (suc f) t h) tt)
      (λ h. rw (spans_next J κ top f t h)
      (all_map _ _ (span_rises top t h) (spans J κ top f (reach J κ top t)) (spans_ok top f (reach J κ top t)), spans_rise top f (reach J κ top t)))

  -- every tick up to top lies in a span
  pub spans_cover : (top f t u : ℕ) → t ≤ u → u ≤ top → top < f + t → Any (Holds u) (spans J κ top f t)
  spans_cover top zero t u h1 h2 h3 = absurd (omega arith)
  spans_cover top (suc f) t u h1 h2 h3 =
      let x : ℕ = reach J κ top t in
      let q : t < x = above_after t _ (suc top) (omega arith) in
      rw (spans_next J κ top f t (omega arith)) (split u x (λ (g : u < x). inl (omega arith)) (λ (g : x ≤ u). inr (spans_cover top f x u g h2 (omega arith))))

  -- more fuel than ticks changes nothing
  pub spans_fuel : (top f f' t : ℕ) → top < f + t → top < f' + t → spans J κ top f t ≡ spans J κ top f' t
  spans_fuel top zero f' t h h' = unfold spans in sym (spans_end J κ top f' t (omega arith))
  spans_fuel top (suc f) zero t h h' = unfold spans in spans_end J κ top (suc f) t (omega arith)
  spans_fuel top (suc f) (suc f') t h h' = split top t
      (λ g. spans_end J κ top (suc f) t g ∙ sym (spans_end J κ top (suc f') t g))
      (λ (g : t ≤ top). let q : t < reach J κ top t = above_after t _ (suc top) (omega arith) in
      spans_next J κ top f t g ∙ ap (λ l. span J κ top t ∷ l) (spans_fuel top f f' (reach J κ top t) (omega arith) (omega arith))
      ∙ sym (spans_next J κ top f' t g))

-- ---- the cut tick is the same for all points of a box

module _ (J : JobSet) (L : Lawful J) (S : State) where
  abbrev pub cut_law : (a e : ℕ) → Above J.release (weight J S.control) a (weight J S.control S.job) e J.jobs (cut_tick J S a e)
  cut_law a e = above_law J L S.control a (weight J S.control S.job) e

  pub cut_le : (a e : ℕ) → cut_tick J S a e ≤ e
  cut_le a e = (cut_law a e).le

  module _ (B : Box) (O : Sound J S B) where
    -- a point whose segment can end by the latest tick of leaving is not cut
    pub no_cut : (s e : ℕ) → B.from ≤ s → e ≤ latest J S B → cut_tick J S s e ≡ e
    no_cut s e h1 h2 =
        let x : ℕ = cut_tick J S s e in
        split x e
        (λ (q : x < e). let (i, a1, a2, a3, a4) = (cut_law s e).hit q in omega (arith, (cut_law B.from (late J S B)).least i a1 a2 (omega arith)))
        (λ (q : e ≤ x). omega (arith, cut_le s e))

    -- any other is cut at that tick
    pub same_cut : (s e : ℕ) → B.from ≤ s → s ≤ B.to → e ≤ late J S B → latest J S B < e → cut_tick J S s e ≡ latest J S B
    same_cut s e h1 h2 h3 h4 =
        let x : ℕ = cut_tick J S s e in
        let y : ℕ = latest J S B in
        let (i, a1, a2, a3, a4) = (cut_law B.from (late J S B)).hit (omega arith) in
        let far : B.to < J.release i = split B.to (J.release i) (λ q. q) (λ (q : J.release i ≤ B.to). omega (arith, O.top i a1 q)) in
        let up : x ≤ y = omega (arith, (cut_law s e).least i a1 a2 (omega arith)) in
        let (i', b1, b2, b3, b4) = (cut_law s e).hit (omega arith) in
        omega (arith, (cut_law B.from (late J S B)).least i' b1 b2 (omega arith))
