-- The children of a box stand in sequence, no two have the same label, and after each there is less to come.
use Rattle.std.proofs.Math.Path.{◌≡◌, ap}
use Rattle.std.specs.Prelude.{refl, ℕ, suc, ◌<◌, Bool, true, false}
use Rattle.std.proofs.Math.Logic.{inl, inr}
use Rattle.std.proofs.Common.{arith}
use Rattle.kernel.specs.Rules.{JobSet, CUT}
use Rattle.kernel.specs.Laws.Tests.{split, if-lt, if-ge}
use Rattle.kernel.specs.Laws.Pick.{disp}
use Rattle.kernel.specs.Laws.Control.{Lawful, leave, weight, after, released}
use Rattle.kernel.specs.Laws.Fall.{potential, fall_leave, fall_cut}
use Rattle.kernel.specs.Laws.Step.{State, dispatch, present, leave_kind_of}
use Rattle.orders.specs.Orders.{Label, Earlier}
use Rattle.orders.specs.Laws.Lists.{All, Apart, apart_map, all_of, apart_append, all_of_map, apart_of_map}
use Rattle.orders.specs.Laws.Box.{Box, Child, Span, child, late, latest, leave_child, leave_spans, leaves, cut_child, cuts, children, Sound}
use Rattle.orders.specs.Laws.Spans.{Rises, spans_rise, cut_law}
use Rattle.orders.specs.Laws.Exact.{each}
use Rattle.orders.specs.Laws.Walk.{label_for, info_for}

-- x stands before y, and they differ
pub record Before (x y : Child) : Type 0 where
  pub earlier : Earlier (info_for x) (info_for y)
  pub differ : label_for x ≡ label_for y → ⊥

is_false : (b : Bool) → (b ≡ true → ⊥) → b ≡ false
is_false true h = absurd (h refl)
is_false false h = refl

module _ (J : JobSet) (L : Lawful J) (S : State) (B : Box) (O : Sound J S B) where
  not_cut : leave_kind_of J S ≡ CUT → ⊥
  unfolding leave_kind_of
  not_cut = split (suc (present S)) (J.segments S.job)
      (λ h. rw if-lt (λ e. let z : ◌≡◌ {A = ℕ} 0 1 = cc in omega arith))
      (λ h. rw if-ge (λ e. let z : ◌≡◌ {A = ℕ} 0 1 = cc in omega arith))

  before_leave : (s s' : Span) → Rises J (leave S.control S.job) s s' → Before (leave_child J S B s) (leave_child J S B s')
  unfolding leave_child child dispatch
  before_leave s s' r = record {
    earlier = (not_cut, inr r.later);
    differ = λ e. omega (arith, r.heavier, ap (λ (l : Label). weight J (leave S.control S.job) l.job) e);
  }

  before_cut : (s : Span) → Before (leave_child J S B s) (cut_child J S B (latest J S B))
  unfolding leave_child cut_child child
  before_cut s = record { earlier = (not_cut, inl refl); differ = λ e. not_cut (ap (λ (l : Label). l.kind) e) }

  pub siblings : Apart Before (children J S B)
  unfolding children cuts leaves leave_spans
  siblings = apart_append Before (leaves J S B) (cuts J S B)
      (apart_of_map (leave_child J S B) Before (leave_spans J S B) (apart_map _ _ before_leave (leave_spans J S B) (spans_rise J L _ _ _ _)))
      (split (latest J S B) (late J S B) (λ h. rw if-lt (tt, tt)) (λ h. rw if-ge tt))
      (split (latest J S B) (late J S B)
      (λ h. rw if-lt (all_of_map (leave_child J S B) _ (leave_spans J S B) (all_of _ (λ s. (before_cut s, tt)) (leave_spans J S B))))
      (λ h. rw if-ge (all_of _ (λ x. tt) (leaves J S B))))

  -- ---- a switch uses up a segment or begins a job

  -- who cuts has not begun: the running job is ahead of all others that have
  cut_new : latest J S B < late J S B → (after J S.control (latest J S B) < J.jobs) × (S.control.begun (after J S.control (latest J S B)) ≡ false)
  cut_new h =
      let d : ℕ = after J S.control (latest J S B) in
      let (i, a1, a2, a3, a4) = (cut_law J L S B.from (late J S B)).hit h in
      let D = disp _ _ _ (released J L S.control) (latest J S B) in
      let up = D.top i a1 (omega arith) in
      let q : d < J.jobs = D.some i a1 (omega arith) in
      (q, is_false _ (λ b. omega (arith, O.top d q (omega (arith, O.was d b, O.ends)))))

  -- fewer switches can still follow
  abbrev pub Less : Child → Type 0
  Less x = potential J x.state.control < potential J S.control

  less_leave : (s : Span) → Less (leave_child J S B s)
  unfolding leave_child child dispatch
  less_leave s = fall_leave J S.control S.job s.job O.inside O.alive

  less_cut : latest J S B < late J S B → Less (cut_child J S B (latest J S B))
  unfolding cut_child child dispatch
  less_cut h = let (a, b) = cut_new h in fall_cut J S.control (after J S.control (latest J S B)) a b

  pub less : All Less (children J S B)
  less = each J L S B O Less (λ s o. less_leave s) less_cut
