-- The children of a box are exactly the switches that its points make next.
use Rattle.std.specs.Prelude.{◌≡◌}
use Rattle.std.proofs.Common.{ap, ◌∙◌, inl, arith}
use Prim.Native.Nat.{ℕ, ◌+◌, ◌-◌, ◌≤◌, ◌<◌, max}
use mathlib.Core.List.{[], ◌∷◌}
use Rattle.kernel.specs.Rules.{JobSet, CUT}
use Rattle.kernel.specs.Laws.Tests.{split, if-lt, if-ge}
use Rattle.kernel.specs.Laws.Places.{put2, put2_same, put2_back}
use Rattle.kernel.specs.Laws.Pick.{disp}
use Rattle.kernel.specs.Laws.Control.{Lawful, leave, released}
use Rattle.kernel.specs.Laws.Fall.{alive_seg}
use Rattle.kernel.specs.Laws.Step.{State, Point, present, leave_kind_of, out_at, step}
use Rattle.orders.specs.Laws.Lists.{All, Any, all_map, any_map, all_append, any_left, any_right, all_of_map, any_of_map}
use Rattle.orders.specs.Laws.Box.{Box, Under, In, Child, Span, child, early, late, latest, leave_child, leave_spans, leaves, cut_span, cut_child, cuts, children, Sound, Has}
use Rattle.orders.specs.Laws.Spans.{Holds, SpanOk, spans_ok, spans_cover, cut_law, cut_le, no_cut, same_cut}
use Rattle.orders.specs.Laws.Child.{under_both, under_above, under_below, Fits, Place, Comes, child_fits, child_has, child_out}

-- y in two parts, each from its interval
record Parts (a b l u y : ℕ) : Type 0 where
  start : ℕ
  left : ℕ
  from : a ≤ start
  to : start ≤ b
  low : l ≤ left
  high : left ≤ u
  is : start + left ≡ y

-- all that lies between the sums of the ends has such parts
parts : (a b l u y : ℕ) → a ≤ b → l ≤ u → a + l ≤ y → y ≤ b + u → Parts a b l u y
parts a b l u y h1 h2 h3 h4 = record {
  start = max a (y - u);
  left = y - max a (y - u);
  from = omega arith;
  to = omega arith;
  low = omega arith;
  high = omega arith;
  is = omega arith;
}

module _ (J : JobSet) (L : Lawful J) (S : State) (B : Box) (O : Sound J S B) where
  -- when the running segment will have had its time
  abbrev end_of : Point → ℕ
  end_of p = p.start + p.left S.job (present S)

  present_real : present S < J.segments S.job
  present_real = alive_seg J S.control S.job O.alive

  step_leave : (p : Point) → B.from ≤ p.start → end_of p ≤ latest J S B
      → step J S p ≡ out_at J (leave_kind_of J S) (leave S.control S.job) (put2 p.left S.job (present S) 0) (end_of p)
  unfolding step
  step_leave p h1 h2 = rw (no_cut J L S B O p.start (end_of p) h1 h2) (if-ge _ _ _ _ (omega arith))

  step_cut : (p : Point) → B.from ≤ p.start → p.start ≤ B.to → end_of p ≤ late J S B → latest J S B < end_of p
      → step J S p ≡ out_at J CUT S.control (put2 p.left S.job (present S) (end_of p - latest J S B)) (latest J S B)
  unfolding step
  step_cut p h1 h2 h3 h4 = rw (same_cut J L S B O p.start (end_of p) h1 h2 h3 h4) (if-lt _ _ _ _ h4)

  -- ---- the children's spans

  abbrev pub LeaveOk : Span → Type 0
  LeaveOk = SpanOk J (leave S.control S.job) (early J S B) (latest J S B)

  leave_ok : All LeaveOk (leave_spans J S B)
  unfolding leave_spans
  leave_ok = spans_ok J L _ _ _ _

  cut_ok : SpanOk J S.control (latest J S B) (latest J S B) (cut_span J S (latest J S B))
  cut_ok = record {
    low = omega arith;
    order = omega arith;
    high = omega arith;
    same = λ t h1 h2. let e : t ≡ latest J S B = omega arith in rw e (disp _ _ _ (released J L S.control) (latest J S B));
    rise = omega arith;
  }

  -- what the children by END or STEP have, and the child by a cut
  pub each : (P : Child → Type 0) → ((s : Span) → LeaveOk s → P (leave_child J S B s)) → (latest J S B < late J S B → P (cut_child J S B (latest J S B)))
      → All P (children J S B)
  unfolding children leaves cuts
  each P f g = all_append P (leaves J S B) (cuts J S B)
      (all_of_map (leave_child J S B) P (leave_spans J S B) (all_map _ _ f (leave_spans J S B) leave_ok))
      (split (latest J S B) (late J S B) (λ h. rw if-lt (g h, tt)) (λ h. rw if-ge tt))

  -- ---- every switch of a point is a child's

  complete_leave : (p : Point) → In J B p → end_of p ≤ latest J S B → Any (Has J (step J S p)) (leaves J S B)
  unfolding leaves leave_child leave_spans
  complete_leave p g h =
      let j : ℕ = S.job in
      let k : ℕ = present S in
      let lows = under_both J B.least p.left j k 0 0 (omega arith) g.low in
      let highs = under_both J p.left B.most j k 0 0 (omega arith) g.high in
      rw (step_leave p g.from h) (any_of_map (leave_child J S B) _ (leave_spans J S B)
      (any_map LeaveOk (Holds (end_of p)) _ (λ s o w. child_has J L (leave_kind_of J S) _ _ _ s _ _ o _ (end_of p) w lows highs) (leave_spans J S B) leave_ok
      (spans_cover J L _ _ _ _ (end_of p) (omega (arith, g.from, g.low j k O.inside present_real)) h (omega arith))))

  complete_cut : (p : Point) → In J B p → latest J S B < end_of p → Any (Has J (step J S p)) (cuts J S B)
  unfolding cuts cut_child
  complete_cut p g h =
      let j : ℕ = S.job in
      let k : ℕ = present S in
      let gl : B.least j k ≤ p.left j k = g.low j k O.inside present_real in
      let gm : p.left j k ≤ B.most j k = g.high j k O.inside present_real in
      rw (
        if-lt (latest J S B) (late J S B) (cut_child J S B (latest J S B) ∷ []) [] (omega (arith, g.to)),
        step_cut p g.from g.to (omega (arith, g.to)) h,
      )
      (inl (child_has J L CUT S.control _ _ _ _ _ cut_ok _ (latest J S B) (omega arith)
      (under_both J B.least p.left j k _ _ (omega (arith, g.from)) g.low)
      (under_both J p.left B.most j k _ _ (omega (arith, g.to)) g.high)))

  pub complete : (p : Point) → In J B p → Any (Has J (step J S p)) (children J S B)
  unfolding children
  complete p g = split (latest J S B) (end_of p)
      (λ h. any_right _ (leaves J S B) (cuts J S B) (complete_cut p g h))
      (λ h. any_left _ (leaves J S B) (cuts J S B) (complete_leave p g h))

  -- ---- every tick and point of a child come from a point

  -- a start and a time of the running segment, within the box, that make it end at y
  abbrev EndsAt : ℕ → Type 0
  EndsAt = Parts B.from B.to (B.least S.job (present S)) (B.most S.job (present S))

  ends_at : (y : ℕ) → early J S B ≤ y → y ≤ late J S B → EndsAt y
  ends_at y = parts B.from B.to _ _ y O.ends (O.order S.job (present S) O.inside present_real)

  -- the point with that start and time that otherwise has left what q has
  abbrev origin : Point → (y : ℕ) → EndsAt y → Point
  origin q y P = record { start = P.start; left = put2 q.left S.job (present S) P.left }

  origin_in : (q : Point) (y : ℕ) (P : EndsAt y) (a b : ℕ)
      → Under J (put2 B.least S.job (present S) a) q.left → Under J q.left (put2 B.most S.job (present S) b) → In J B (origin q y P)
  origin_in q y P a b low high = record {
    from = P.from;
    to = P.to;
    low = under_above J B.least q.left S.job (present S) a P.left P.low low;
    high = under_below J q.left B.most S.job (present S) P.left b P.high high;
  }

  origin_end : (q : Point) (y : ℕ) (P : EndsAt y) → end_of (origin q y P) ≡ y
  origin_end q y P = omega (arith, P.is, put2_same q.left S.job (present S) P.left)

  come_leave : (s : Span) → LeaveOk s → (t : ℕ) (q : Point) → Place J (leave_child J S B s) t q → EndsAt t → Comes J S B (leave_child J S B s) t q
  unfolding leave_child child
  come_leave s o t q a P =
      let e = origin_end q t P in
      let z : q.left S.job (present S) ≡ 0 = omega (arith, a.point.high _ _ O.inside present_real, put2_same B.most S.job (present S) 0) in
      record {
        origin = origin q t P;
        inside = origin_in q t P _ _ a.point.low a.point.high;
        makes = step_leave (origin q t P) P.from (omega (arith, o.high, a.to))
            ∙ rw (e, put2_back q.left S.job (present S) P.left 0 z) (child_out J L (leave_kind_of J S) _ _ _ s _ _ o t q a);
      }

  come_cut : (t : ℕ) (q : Point) → Place J (cut_child J S B (latest J S B)) t q
      → 0 < q.left S.job (present S) → latest J S B + q.left S.job (present S) ≤ late J S B
      → EndsAt (latest J S B + q.left S.job (present S)) → Comes J S B (cut_child J S B (latest J S B)) t q
  unfolding cut_child child
  come_cut t q a h g P =
      let y : ℕ = latest J S B + q.left S.job (present S) in
      let e = origin_end q y P in
      let now : latest J S B ≡ t = omega (arith, a.from, a.to) in
      record {
        origin = origin q y P;
        inside = origin_in q y P _ _ a.point.low a.point.high;
        makes = step_cut (origin q y P) P.from P.to (omega arith) (omega arith)
            ∙ rw (put2_back q.left S.job (present S) P.left (end_of (origin q y P) - latest J S B) (omega arith))
            (ap (out_at J CUT S.control q.left) now ∙ child_out J L CUT S.control _ _ _ _ _ cut_ok t q a);
      }

  sound_leave : (s : Span) → LeaveOk s → (t : ℕ) (q : Point) → Place J (leave_child J S B s) t q → Comes J S B (leave_child J S B s) t q
  sound_leave s o t q a = come_leave s o t q a
      (unfold leave_child child in ends_at t (omega (arith, o.low, a.from)) (omega (arith, o.high, a.to, cut_le J L S B.from (late J S B))))

  sound_cut : latest J S B < late J S B → (t : ℕ) (q : Point) → Place J (cut_child J S B (latest J S B)) t q
      → Comes J S B (cut_child J S B (latest J S B)) t q
  sound_cut h t q a =
      let z1 : max 1 (early J S B - latest J S B) ≤ q.left S.job (present S)
      = unfold cut_child child in omega (arith, a.point.low _ _ O.inside present_real, put2_same B.least S.job (present S) (max 1 (early J S B - latest J S B))) in
      let z2 : q.left S.job (present S) ≤ late J S B - latest J S B
      = unfold cut_child child in omega (arith, a.point.high _ _ O.inside present_real, put2_same B.most S.job (present S) (late J S B - latest J S B)) in
      come_cut t q a (omega arith) (omega arith) (ends_at _ (omega arith) (omega arith))

  pub sound : All (λ x. (t : ℕ) (q : Point) → Place J x t q → Comes J S B x t q) (children J S B)
  sound = each _ sound_leave sound_cut

  -- ---- what a box owes is kept

  fits_leave : (s : Span) → LeaveOk s → Fits J (leave_child J S B s)
  unfolding leave_child leave
  fits_leave s o = child_fits J L (leave_kind_of J S) _ _ _ s _ _ o (λ i b. omega (arith, O.was i b, o.low))
      (under_both J B.least B.most S.job (present S) 0 0 (omega arith) O.order)

  fits_cut : latest J S B < late J S B → Fits J (cut_child J S B (latest J S B))
  unfolding cut_child
  fits_cut h =
      let (i, a1, a2, a3, a4) = (cut_law J L S B.from (late J S B)).hit h in
      child_fits J L CUT S.control _ _ _ _ _ cut_ok (λ i b. omega (arith, O.was i b))
      (under_both J B.least B.most S.job (present S) _ _ (omega (arith, O.ends, O.order S.job (present S) O.inside present_real)) O.order)

  pub fits : All (Fits J) (children J S B)
  fits = each (Fits J) fits_leave fits_cut
