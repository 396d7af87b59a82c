-- What a child of a box owes: where the job of a span is dispatched, the box that follows owes what a box owes.
use Rattle.std.specs.Prelude.{◌≡◌, refl, ◌≢◌, Bool, ◌&&◌}
use Rattle.std.proofs.Common.{sym, ◌∙◌}
use Rattle.std.proofs.Math.Path.{ap}
use Prim.Native.Nat.{ℕ, ◌≤◌, ◌<◌, max}
use native.Mathlib.Omega.{arith}
use Rattle.std.proofs.Math.Decide.{ℕ_discrete}
use Rattle.std.proofs.Math.Bool.{true, false, cond}
use Rattle.std.proofs.Math.Dec.{eqb}
use Rattle.kernel.specs.Rules.{JobSet, Kind}
use Rattle.kernel.specs.Laws.Tests.{split, if-lt, if-ge}
use Rattle.kernel.specs.Laws.Places.{put_same, put_other, put2, put2_cases}
use Rattle.kernel.specs.Laws.Pick.{Disp, disp_unique}
use Rattle.kernel.specs.Laws.Control.{Lawful, Control, mark, weight, after, start_after, released}
use Rattle.kernel.specs.Laws.Step.{State, dispatch, Point, Out, out_at, step}
use Rattle.orders.specs.Laws.Box.{Box, Under, In, Child, Span, child, Sound, Has}
use Rattle.orders.specs.Laws.Spans.{Holds, SpanOk}

-- ---- limits changed at one place

-- nothing else changes
elsewhere : (f : ℕ → ℕ → ℕ) (j k x i m : ℕ) → (i ≡ j → m ≡ k → ⊥) → put2 f j k x i m ≡ f i m
elsewhere f j k x i m d = put2_cases (λ v. v ≡ f i m) f j k x i m (λ p q. absurd (d p q)) (λ _. refl)

module _ (J : JobSet) (f g : ℕ → ℕ → ℕ) (j k x y : ℕ) where
  -- both are changed
  pub under_both : x ≤ y → Under J f g → Under J (put2 f j k x) (put2 g j k y)
  unfolding put2
  under_both h u i m hi hm = go (eqb i j && eqb m k)
    where
      go : (b : Bool) → cond b x (f i m) ≤ cond b y (g i m)
      go true = h
      go false = u i m hi hm

  -- the change goes over from the lower to the upper
  pub under_above : f j k ≤ y → Under J (put2 f j k x) g → Under J f (put2 g j k y)
  under_above h u i m hi hm = put2_cases (λ v. f i m ≤ v) g j k y i m (λ p q. rw (p, q) h) (λ d. rw (elsewhere f j k x i m d) at (u i m hi hm))

  -- and from the upper to the lower
  pub under_below : x ≤ g j k → Under J f (put2 g j k y) → Under J (put2 f j k x) g
  under_below h u i m hi hm = put2_cases (λ v. v ≤ g i m) f j k x i m (λ p q. rw (p, q) h) (λ d. rw (elsewhere g j k y i m d) at (u i m hi hm))

-- ---- a job that is dispatched gains

cond_le : (b : Bool) (x y : ℕ) → y ≤ x → cond b x y ≤ x
cond_le true x y h = omega arith
cond_le false x y h = h

module _ (J : JobSet) (κ : Control) (d : ℕ) where
  mark_same : Lawful J → d < J.jobs → weight J κ d ≤ weight J (mark κ d) d
  unfolding weight mark
  mark_same L h = rw (put_same κ.begun d true) (split (κ.segment d) (J.segments d)
      (λ q. simp if-lt (cond_le (κ.begun d) _ _ (omega (arith, L.raised d (κ.segment d) h q))))
      (λ q. simp if-ge (omega arith)))

  mark_other : (i : ℕ) → i ≢ d → weight J (mark κ d) i ≡ weight J κ i
  unfolding weight mark
  mark_other i h = rw (put_other κ.begun d true i h)

  mark_begun : (i : ℕ) → i ≢ d → (mark κ d).begun i ≡ κ.begun i
  unfolding mark
  mark_begun i h = put_other κ.begun d true i h

-- ---- what a child owes

module _ (J : JobSet) where
  -- where no job runs a box owes nothing
  abbrev pub Owes : State → Box → Type 0
  Owes S B = S.job < J.jobs → Sound J S B

  -- its intervals have members, its start interval is that of its ticks of leaving, and its box owes what a box owes
  pub record Fits (x : Child) : Type 0 where
    pub span : x.first ≤ x.last
    pub from : x.box.from ≡ max x.first (J.release x.state.job)
    pub to : x.box.to ≡ max x.last (J.release x.state.job)
    pub order : Under J x.box.least x.box.most
    pub kept : Owes x.state x.box

  -- a tick of leaving of the child, and a point of its box that starts then
  pub record Place (x : Child) (t : ℕ) (q : Point) : Type 0 where
    pub from : x.first ≤ t
    pub to : t ≤ x.last
    pub start : q.start ≡ max t (J.release x.state.job)
    pub point : In J x.box q

  -- the switch of the child at that tick to that point
  abbrev pub out_of : Child → ℕ → Point → Out
  out_of x t q = record { kind = x.kind; tick = t; state = x.state; point = q }

  -- some point of the box makes that switch
  pub record Comes (S : State) (B : Box) (x : Child) (t : ℕ) (q : Point) : Type 0 where
    pub origin : Point
    pub inside : In J B origin
    pub makes : step J S origin ≡ out_of x t q

-- the child of a span
module _ (J : JobSet) (L : Lawful J) (kind : Kind) (κ : Control) (least most : ℕ → ℕ → ℕ) (s : Span) (t0 top : ℕ) (o : SpanOk J κ t0 top s) where
  module _ (was : (i : ℕ) → κ.begun i ≡ true → J.release i ≤ s.first) (order : Under J least most) where
    child_sound : s.job < J.jobs → Sound J (child J kind κ least most s).state (child J kind κ least most s).box
    unfolding child dispatch
    child_sound h =
        let d : ℕ = s.job in
        let D : Disp J.jobs J.release (weight J κ) s.last d = o.same s.last o.order (omega arith) in
        let gain : weight J κ d ≤ weight J (mark κ d) d = mark_same J κ d L h in
        record {
          inside = h;
          alive = omega (arith, D.real h);
          out = omega arith;
          ends = omega (arith, o.order);
          top = λ i hi r. elim (ℕ_discrete i d) [
            | yes q ↦ rw q (omega arith)
            | no q ↦ rw (mark_other J κ d i q) (omega (arith, D.top i hi r))
          ];
          tie = λ i hi z. let q : i ≢ d = omega arith in
              let e : weight J (mark κ d) i ≡ weight J κ i = mark_other J κ d i q in
              omega (arith, D.tie i hi (omega (arith, L.sorted i d (omega arith) h)) (omega arith));
          was = λ i b. elim (ℕ_discrete i d) [
            | yes q ↦ rw q (omega arith)
            | no q ↦ omega (arith, was i (sym (mark_begun J κ d i q) ∙ b))
          ];
          order = order;
        }

    pub child_fits : Fits J (child J kind κ least most s)
    child_fits = record {
      span = unfold child in o.order;
      from = unfold child dispatch in refl;
      to = unfold child dispatch in refl;
      order = unfold child in order;
      kept = unfold child dispatch in child_sound;
    }

  job_at_lem : (t : ℕ) → Holds t s → after J κ t ≡ s.job
  job_at_lem t w = disp_unique _ _ _ (released J L κ) t s.job (o.same t w.0 w.1)

  pub child_has : (left : ℕ → ℕ → ℕ) (t : ℕ) → Holds t s → Under J least left → Under J left most
      → Has J (out_at J kind κ left t) (child J kind κ least most s)
  unfolding out_at child
  child_has left t w h1 h2 =
      let e = job_at_lem t w in
      let r = ap J.release e in
      record {
        kind = refl;
        state = ap (dispatch κ) (sym e);
        from = w.0;
        to = w.1;
        point = record { from = omega (arith, w.0); to = omega (arith, w.1); low = h1; high = h2 };
      }

  pub child_out : (t : ℕ) (q : Point) → Place J (child J kind κ least most s) t q
      → out_at J kind κ q.left t ≡ out_of J (child J kind κ least most s) t q
  unfolding out_at child dispatch
  child_out t q a =
      let e = job_at_lem t (a.from, a.to) in
      let h : start_after J κ t ≡ q.start = omega (arith, ap J.release e, a.start) in
      λ i. record { kind = kind; tick = t; state = dispatch κ (e i); point = record { start = h i; left = q.left } }
