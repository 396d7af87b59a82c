-- A run is its steps from switch to switch; so it has no more switches than segments and jobs together.
use Rattle.std.specs.Prelude.{◌≡◌, Bool, false, cond, List, [], ◌∷◌, ◌++◌}
use Rattle.std.proofs.Math.Path.{refl, ap}
use Rattle.std.proofs.Common.{◌∙◌, length-append}
use Rattle.std.proofs.Math.Bool.{true}
use Prim.Native.Nat.{ℕ, zero, suc, ◌+◌, ◌≤◌, ◌<◌}
use native.Mathlib.Omega.{arith}
use Rattle.std.proofs.Math.ListN.{length}
use borrow.Author.Tests.{lt-ltb}
use Rattle.kernel.specs.Rules.{JobSet, Progress, one_tick, Run, Switch, first, reported, run_tick, switch_at, last_switch, over, fresh, end_segment, switches, ends, run_of, is_in_frame, Within}
use Rattle.kernel.specs.Laws.Tests.{split, if-lt, if-ge}
use Rattle.kernel.specs.Laws.Control.{Lawful, mark, after}
use Rattle.kernel.specs.Jobs.{sum}
use Rattle.kernel.specs.Laws.Fall.{potential, unbegun, fall_cut, potential_start}
use Rattle.kernel.specs.Laws.Step.{State, dispatch, Point, step, switch_of, switches_from, first_tick, first_state, first_out}
use Rattle.kernel.specs.Laws.Sound.{SoundAt, some_left, sound_step, fall_step, first_inside, sound_first}
use Rattle.kernel.specs.Laws.Ending.{end_of, ends_at}
use Rattle.kernel.specs.Laws.Ticks.{serving}
use Rattle.kernel.specs.Laws.Leads.{Leads, Closes, leads_closes}
use Rattle.kernel.specs.Laws.Stand.{Stands, stands_tick}
use Rattle.kernel.specs.Laws.Between.{Served, wait_leads, step_reaches, step_closes}

pub from_done : (J : JobSet) (f : ℕ) (S : State) (p : Point) → J.jobs ≤ S.job → switches_from J f S p ≡ []
unfolding switches_from
from_done J zero S p h = refl
from_done J (suc f) S p h = if-ge _ _ _ _ h

pub from_more : (J : JobSet) (f : ℕ) (S : State) (p : Point) → S.job < J.jobs
    → switches_from J (suc f) S p ≡ switch_of J (step J S p) ∷ switches_from J f (step J S p).state (step J S p).point
unfolding switches_from
from_more J f S p h = if-lt _ _ _ _ h

module _ (J : JobSet) (L : Lawful J) (time : ℕ → ℕ → ℕ) where
  -- a run that stands right after a dispatch goes on by the switches from there
  abbrev FromClose : ℕ → State → Point → Type 0
  FromClose f S p = (q : Progress) → Served J time S p q → Closes J time (switches_from J f S p) (suc p.start) (serving q S.job)

  from_step : (f : ℕ) (S : State) (p : Point) → SoundAt J S p
      → ((step J S p).state.job < J.jobs → FromClose f (step J S p).state (step J S p).point) → FromClose (suc f) S p
  from_step f S p O ih q s = rw (from_more J f S p O.inside) (split (step J S p).state.job J.jobs
      (λ h. let R = step_reaches J L time S p O q s h in leads_closes J time R.leads (ih h R.to R.served))
      (λ h. rw (from_done J f (step J S p).state (step J S p).point h) (step_closes J L time S p O q s h)))

  from_close : (f : ℕ) (S : State) (p : Point) → SoundAt J S p → potential J S.control ≤ f → FromClose f S p
  from_close zero S p O h = absurd (omega (arith, fall_step J L S p O))
  from_close (suc f) S p O h = from_step f S p O
      (λ g. from_close f (step J S p).state (step J S p).point (sound_step J L S p O g) (omega (arith, fall_step J L S p O)))

  module _ (W : Within J time) where
    fresh_stands : Stands J time (fresh J).progress unbegun time
    unfolding unbegun
    fresh_stands = record { control = refl; now = λ i h l. omega arith; later = λ i k h a b. refl; nobody = refl }

    first_served : Served J time (first_state J) (first_out J time).point (one_tick (fresh J).progress (after J unbegun 0))
    unfolding dispatch mark
    first_served = stands_tick J time (fresh J).progress unbegun time (after J unbegun 0)
        (some_left J L (first_state J) (first_out J time).point (sound_first J L time W)) fresh_stands

    first_leads : Leads J time (switch_of J (first_out J time) ∷ []) 0 (fresh J)
        (suc (first_tick J)) (serving (one_tick (fresh J).progress (after J unbegun 0)) (first_state J).job)
    unfolding switch_of dispatch mark reported
    first_leads = wait_leads J L time (fresh J).progress unbegun time fresh_stands first 0 (first_inside J L)

    -- a run that ends within n ticks
    pub whole_steps : (n f : ℕ) → ends J time n 0 (fresh J) ≡ true → potential J (first_state J).control ≤ f
        → switches J time n 0 (fresh J) ≡ switch_of J (first_out J time) ∷ switches_from J f (first_state J) (first_out J time).point
    whole_steps n f h g =
        (leads_closes J time first_leads (from_close f (first_state J) (first_out J time).point (sound_first J L time W) g _ first_served)).all n h

    -- the run in its frame
    pub run_steps : is_in_frame J time ≡ true → (f : ℕ) → potential J (first_state J).control ≤ f
        → run_of J time ≡ switch_of J (first_out J time) ∷ switches_from J f (first_state J) (first_out J time).point
    run_steps h f = whole_steps (suc J.frame) f h

-- ---- how many switches

cond_length : (b : Bool) (last here x y : List Switch) → length x ≤ length y → length (cond b last (here ++ x)) ≤ length (cond b last (here ++ y))
cond_length true last here x y h = omega arith
cond_length false last here x y h = omega (arith, length-append here x, length-append here y)

-- more ticks make no fewer switches
switches_more : (J : JobSet) (time : ℕ → ℕ → ℕ) (n m t : ℕ) (r : Run) → n ≤ m → length (switches J time n t r) ≤ length (switches J time m t r)
unfolding switches
switches_more J time zero m t r h = omega arith
switches_more J time (suc n) zero t r h = absurd (omega arith)
switches_more J time (suc n) (suc m) t r h =
    let e : Run = end_segment J time t r in
    cond_length (over J e) (last_switch J e.due) (switch_at J t e) _ _ (switches_more J time n m (suc t) (run_tick J t e) (omega arith))

from_length : (J : JobSet) (f : ℕ) (S : State) (p : Point) → length (switches_from J f S p) ≤ f
unfolding switches_from
from_length J zero S p = omega arith
from_length J (suc f) S p = split S.job J.jobs
    (λ h. rw if-lt (omega (arith, from_length J f (step J S p).state (step J S p).point)))
    (λ h. rw if-ge (omega arith))

module _ (J : JobSet) (L : Lawful J) (time : ℕ → ℕ → ℕ) (W : Within J time) where
  -- a run has no more switches than segments and jobs together, whether it ends in its frame or not
  pub run_bound : length (run_of J time) ≤ sum J.segments J.jobs + J.jobs
  unfolding dispatch
  run_bound =
      let f : ℕ = potential J (first_state J).control in
      let n : ℕ = suc J.frame + end_of J time in
      let e : ends J time n 0 (fresh J) ≡ true = ends_at J L time W n ∙ lt-ltb (end_of J time) n (omega arith) in
      omega (
        arith,
        switches_more J time (suc J.frame) n 0 (fresh J) (omega arith),
        ap length (whole_steps J L time W n f e (omega arith)),
        from_length J f (first_state J) (first_out J time).point,
        fall_cut J unbegun (after J unbegun 0) (first_inside J L) (unfold unbegun in refl),
        potential_start J,
      )
