-- From one switch to the next: what a run does between two dispatches, in one step.
use Rattle.std.specs.Prelude.{ℕ, zero, suc, ◌+◌, ◌-◌, List, [], ◌∷◌}
use Rattle.kernel.specs.Rules.{JobSet, Kind, FIRST, END, STEP, CUT, Switch}
use Rattle.kernel.specs.Laws.Tests.{iflt}
use Rattle.kernel.specs.Laws.Places.{put2}
use Rattle.kernel.specs.Laws.Control.{Control, leave, mark, weight, after, start_after, above}
use Rattle.kernel.specs.Laws.Fall.{unbegun}

-- right after a dispatch: the control, and the running job
pub record State : Type 0 where
  pub control : Control
  pub job : ℕ

unfoldable pub dispatch : Control → ℕ → State
dispatch κ d = record { control = mark κ d; job = d }

-- of one run at a dispatch: its tick, and what is left of each segment (nothing of a segment that was left)
pub record Point : Type 0 where
  pub start : ℕ
  pub left : ℕ → ℕ → ℕ

-- a switch: its kind, its tick of leaving, and where it leads
pub record Out : Type 0 where
  pub kind : Kind
  pub tick : ℕ
  pub state : State
  pub point : Point

-- the present segment of the running job
abbrev pub present : State → ℕ
present S = S.control.segment S.job

module _ (J : JobSet) where
  unfoldable pub leave_kind_of : State → Kind
  leave_kind_of S = iflt (suc (present S)) (J.segments S.job) STEP END

  -- the running job is cut at the first release above it after a, where that is before e; else e
  abbrev pub cut_tick : State → (a e : ℕ) → ℕ
  cut_tick S a e = above J S.control a (weight J S.control S.job) e

  -- a leaving at t by a kind, with a control and with what is left then
  unfoldable pub out_at : Kind → Control → (ℕ → ℕ → ℕ) → ℕ → Out
  out_at kind κ left t = record { kind = kind; tick = t; state = dispatch κ (after J κ t); point = record { start = start_after J κ t; left = left } }

  -- the switch that a run makes next
  unfoldable pub step : State → Point → Out
  step S p =
      let j = S.job in
      let k = present S in
      let e = p.start + p.left j k in
      let t = cut_tick S p.start e in
      iflt t e (out_at CUT S.control (put2 p.left j k (e - t)) t) (out_at (leave_kind_of S) (leave S.control j) (put2 p.left j k 0) t)

  -- as the rules' switch
  unfoldable pub switch_of : Out → Switch
  switch_of o = record {
    kind = o.kind;
    tick = o.tick;
    job = o.state.job;
    segment = o.state.control.segment o.state.job;
    start = o.point.start;
  }

  -- the switches from a dispatch on, at most f of them
  unfoldable pub switches_from : ℕ → State → Point → List Switch
  switches_from zero S p = []
  switches_from (suc f) S p =
      let o = step S p in
      let rest = switches_from f o.state o.point in
      iflt S.job J.jobs (switch_of o ∷ rest) []

  -- the first dispatch, where segment k of job i takes `time i k` ticks
  abbrev pub first_tick : ℕ
  first_tick = start_after J unbegun 0

  abbrev pub first_state : State
  first_state = dispatch unbegun (after J unbegun 0)

  abbrev pub first_out : (ℕ → ℕ → ℕ) → Out
  first_out time = record { kind = FIRST; tick = first_tick; state = first_state; point = record { start = first_tick; left = time } }
