-- A log tells its times.
use Rattle.std.specs.Prelude.{◌≡◌, true, List, [], ◌∷◌, map}
use Rattle.std.proofs.Math.Path.{refl}
use Rattle.std.proofs.Common.{sym, ap, ◌∙◌}
use Prim.Native.Nat.{ℕ, zero, suc, ◌+◌, ◌-◌, ◌≤◌, ◌<◌, max}
use native.Mathlib.Omega.{arith}
use Rattle.kernel.specs.Rules.{JobSet, Kind, CUT, Switch, run_of, is_in_frame, Within}
use Rattle.kernel.specs.Laws.Tests.{split}
use Rattle.kernel.specs.Laws.Places.{put2, put2_cases, put2_sum}
use Rattle.kernel.specs.Laws.Pick.{disp}
use Rattle.kernel.specs.Laws.Control.{Lawful, Control, leave, mark, after, released}
use Rattle.kernel.specs.Laws.Fall.{seg_alive, potential, unbegun}
use Rattle.kernel.specs.Laws.Step.{State, dispatch, Point, Out, present, leave_kind_of, out_at, step, switch_of, switches_from, first_tick, first_state, first_out}
use Rattle.kernel.specs.Laws.Sound.{SoundAt, done_tick, leave_tick, leave_law, leave_after, step_cases, undone_step, sound_step, fall_step, sound_first}
use Rattle.kernel.specs.Laws.Range.{run_same, frame_same}
use Rattle.kernel.specs.Laws.Steps.{from_done, from_more, run_steps}

-- ---- the log, and how it is read

-- a switch as the log has it
pub record Entry : Type 0 where
  pub kind : Kind
  pub tick : ℕ
  pub job : ℕ
  pub segment : ℕ

abbrev pub entry_of : Switch → Entry
entry_of s = record { kind = s.kind; tick = s.tick; job = s.job; segment = s.segment }

abbrev pub log_of : JobSet → (ℕ → ℕ → ℕ) → List Entry
log_of J time = map entry_of (run_of J time)

-- part of a log is read: what ran last, since when, and how long each segment has run
pub record Reading : Type 0 where
  pub job : ℕ
  pub segment : ℕ
  pub since : ℕ
  pub times : ℕ → ℕ → ℕ

module _ (J : JobSet) where
  -- before the first entry none has run
  abbrev pub unread : Reading
  unread = record { job = J.jobs; segment = 0; since = 0; times = λ i k. 0 }

  -- what ran has run until the tick of leaving; what the entry names runs once it is released
  unfoldable pub read_on : Reading → Entry → Reading
  read_on m v = record {
    job = v.job;
    segment = v.segment;
    since = max v.tick (J.release v.job);
    times = put2 m.times m.job m.segment (m.times m.job m.segment + (v.tick - m.since));
  }

  unfoldable pub read_all : Reading → List Entry → Reading
  read_all m [] = m
  read_all m (v ∷ vs) = read_all (read_on m v) vs

  -- the execution times that a log tells
  abbrev pub times_of : List Entry → ℕ → ℕ → ℕ
  times_of l = (read_all unread l).times

-- l is the log of the run with these times
pub record LogOfRun (J : JobSet) (l : List Entry) (time : ℕ → ℕ → ℕ) : Type 0 where
  pub within : Within J time
  pub in_frame : is_in_frame J time ≡ true
  pub log : log_of J time ≡ l

-- ---- what is read is what was run

module _ (J : JobSet) (L : Lawful J) (S : State) (p : Point) (O : SoundAt J S p) where
  -- where none is dispatched all are finished
  abbrev Over : Out → Type 0
  Over o = J.jobs ≤ o.state.job → (i : ℕ) → i < J.jobs → J.segments i ≤ o.state.control.segment i

  over_out : (kind : Kind) (κ : Control) (left : ℕ → ℕ → ℕ) (t : ℕ) → Over (out_at J kind κ left t)
  unfolding out_at dispatch mark
  over_out kind κ left t h i q = split (κ.segment i) (J.segments i)
      (λ (l : κ.segment i < J.segments i). absurd (omega (arith, (disp _ _ _ (released J L κ) t).some i q (seg_alive J κ i l))))
      (λ l. l)

  -- what runs next starts once it is released
  abbrev Starts : Out → Type 0
  Starts o = o.point.start ≡ max o.tick (J.release o.state.job)

  starts_out : (kind : Kind) (κ : Control) (left : ℕ → ℕ → ℕ) (t : ℕ) → Starts (out_at J kind κ left t)
  unfolding out_at dispatch
  starts_out kind κ left t = refl

  -- a step takes from the running segment what it ran, and leaves the rest
  abbrev Takes : (ℕ → ℕ → ℕ) → Out → Type 0
  Takes m o = (i x : ℕ)
      → put2 m S.job (present S) (m S.job (present S) + (o.tick - p.start)) i x + o.point.left i x ≡ m i x + p.left i x

  takes_out : (m : ℕ → ℕ → ℕ) (kind : Kind) (κ : Control) (y : ℕ) → y ≡ done_tick S p - leave_tick J S p
      → Takes m (out_at J kind κ (put2 p.left S.job (present S) y) (leave_tick J S p))
  unfolding out_at
  takes_out m kind κ y h = put2_sum m p.left S.job (present S) _ y (omega (arith, leave_after J L S p O, (leave_law J L S p O).le))

  record Told (o : Out) : Type 0 where
    over : Over o
    starts : Starts o
    takes : (m : ℕ → ℕ → ℕ) → Takes m o

  told_out : (kind : Kind) (κ : Control) (y : ℕ) → y ≡ done_tick S p - leave_tick J S p
      → Told (out_at J kind κ (put2 p.left S.job (present S) y) (leave_tick J S p))
  told_out kind κ y h = record { over = over_out kind κ _ _; starts = starts_out kind κ _ _; takes = λ m. takes_out m kind κ y h }

  told : Told (step J S p)
  told = step_cases J S p Told
      (λ h. told_out CUT S.control (done_tick S p - leave_tick J S p) refl)
      (λ h. told_out (leave_kind_of J S) (leave S.control S.job) 0 (omega arith))

-- what has been read when S is dispatched
abbrev reading_at : State → Point → (ℕ → ℕ → ℕ) → Reading
reading_at S p m = record { job = S.job; segment = present S; since = p.start; times = m }

read_more : (J : JobSet) (m : Reading) (v : Entry) (vs : List Entry) → read_all J m (v ∷ vs) ≡ read_all J (read_on J m v) vs
unfolding read_all
read_more J m v vs = refl

read_none : (J : JobSet) (m : Reading) → read_all J m [] ≡ m
unfolding read_all
read_none J m = refl

read_switch : (J : JobSet) (S : State) (p : Point) (m : ℕ → ℕ → ℕ) (o : Out) → o.point.start ≡ max o.tick (J.release o.state.job)
    → read_on J (reading_at S p m) (entry_of (switch_of J o))
    ≡ reading_at o.state o.point (put2 m S.job (present S) (m S.job (present S) + (o.tick - p.start)))
unfolding read_on switch_of
read_switch J S p m o e =
    let m' : ℕ → ℕ → ℕ = put2 m S.job (present S) (m S.job (present S) + (o.tick - p.start)) in
    λ z. record { job = o.state.job; segment = present o.state; since = sym e z; times = m' }

module _ (J : JobSet) (L : Lawful J) where
  -- reading on from a dispatch adds to each segment's time what is left of it
  abbrev Tells : ℕ → State → Point → Type 0
  Tells f S p = (m : ℕ → ℕ → ℕ) (i x : ℕ) → i < J.jobs → x < J.segments i
      → (read_all J (reading_at S p m) (map entry_of (switches_from J f S p))).times i x ≡ m i x + p.left i x

  tells_step : (f : ℕ) (S : State) (p : Point) → SoundAt J S p
      → ((step J S p).state.job < J.jobs → Tells f (step J S p).state (step J S p).point) → Tells (suc f) S p
  tells_step f S p O ih m i x h l =
      let o : Out = step J S p in
      let T : Told J L S p O o = told J L S p O in
      rw (from_more J f S p O.inside, read_more, read_switch J S p m o T.starts) (split o.state.job J.jobs
      (λ g. ih g _ i x h l ∙ T.takes m i x)
      (λ g. let z : o.point.left i x ≡ 0 = (undone_step J L S p O).past i x h (omega (arith, T.over g i h)) in
      rw (from_done J f o.state o.point g, read_none) (omega (arith, T.takes m i x))))

  tells : (f : ℕ) (S : State) (p : Point) → SoundAt J S p → potential J S.control ≤ f → Tells f S p
  tells zero S p O h = absurd (omega (arith, fall_step J L S p O))
  tells (suc f) S p O h = tells_step f S p O
      (λ g. tells f (step J S p).state (step J S p).point (sound_step J L S p O g) (omega (arith, fall_step J L S p O)))

  -- until the first dispatch no segment has run
  abbrev waited : ℕ → ℕ → ℕ
  waited = put2 (λ i k. 0) J.jobs 0 (0 + (first_tick J - 0))

  first_read : (time : ℕ → ℕ → ℕ) → read_on J (unread J) (entry_of (switch_of J (first_out J time))) ≡ reading_at (first_state J) (first_out J time).point waited
  unfolding read_on switch_of dispatch
  first_read time =
      let e : max (first_tick J) (J.release (after J unbegun 0)) ≡ first_tick J = omega arith in
      λ z. record { job = (first_state J).job; segment = present (first_state J); since = e z; times = waited }

  -- the times of a run are read off its log
  pub log_tells : (time : ℕ → ℕ → ℕ) → Within J time → is_in_frame J time ≡ true → (i k : ℕ) → i < J.jobs → k < J.segments i → times_of J (log_of J time) i k ≡ time i k
  log_tells time W F i k h l =
      let f : ℕ = potential J (first_state J).control in
      let rest : List Entry = map entry_of (switches_from J f (first_state J) (first_out J time).point) in
      ap (λ (r : List Switch). times_of J (map entry_of r) i k) (run_steps J L time W F f (omega arith))
      ∙ ap (λ (r : Reading). r.times i k) (read_more J (unread J) (entry_of (switch_of J (first_out J time))) rest)
      ∙ ap (λ (r : Reading). (read_all J r rest).times i k) (first_read time)
      ∙ tells f (first_state J) (first_out J time).point (sound_first J L time W) (omega arith) waited i k h l
      ∙ put2_cases (λ v. v + time i k ≡ time i k) (λ i k. 0) J.jobs 0 (0 + (first_tick J - 0)) i k (λ e. absurd (omega arith)) (λ n. omega arith)

  -- so different times have different logs
  pub same_log : (time more : ℕ → ℕ → ℕ) → Within J time → Within J more → is_in_frame J time ≡ true → is_in_frame J more ≡ true
      → log_of J time ≡ log_of J more
      → (i k : ℕ) → i < J.jobs → k < J.segments i → time i k ≡ more i k
  same_log time more W X F G e i k h l = sym (log_tells time W F i k h l) ∙ ap (λ (r : List Entry). times_of J r i k) e ∙ log_tells more X G i k h l

  -- a log that is of a run is of the run with the times read off it
  pub log_of_run : (l : List Entry) (time : ℕ → ℕ → ℕ) → LogOfRun J l time → LogOfRun J l (times_of J l)
  log_of_run l time R =
      let W = R.within in
      let same : (i k : ℕ) → i < J.jobs → k < J.segments i → time i k ≡ times_of J l i k
      = λ i k h q. sym (log_tells time W R.in_frame i k h q) ∙ ap (λ (r : List Entry). times_of J r i k) R.log in
      record {
        within = record {
          low = λ i k h q. omega (arith, same i k h q, W.low i k h q);
          high = λ i k h q. omega (arith, same i k h q, W.high i k h q);
        };
        in_frame = sym (frame_same J L time (times_of J l) same) ∙ R.in_frame;
        log = ap (map entry_of) (sym (run_same J L time (times_of J l) same)) ∙ R.log;
      }
