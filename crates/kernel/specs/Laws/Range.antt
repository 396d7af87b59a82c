-- A run depends on the times of the segments that there are, and on no others.
use Rattle.std.specs.Prelude.{◌≡◌, true, ℕ, zero, suc, ◌<◌}
use Rattle.std.proofs.Math.Path.{refl, sym, ap}
use Rattle.std.proofs.Common.{◌∙◌, arith}
use Rattle.std.proofs.Math.Bool.{cond}
use mathlib.Core.List.{List, ◌++◌}
use Rattle.kernel.specs.Rules.{JobSet, Run, Switch, dispatched, run_tick, switch_at, last_switch, over, fresh, end_segment, switches, ends, run_of, is_in_frame}
use Rattle.kernel.specs.Laws.Tests.{split}
use Rattle.kernel.specs.Laws.Control.{Lawful}
use Rattle.kernel.specs.Laws.Choice.{ready_open, best_ready}
use Rattle.kernel.specs.Laws.Ticks.{end_none, tick_some, tick_none}
use Rattle.kernel.specs.Laws.Leads.{ends_some, switches_some}

module _ (J : JobSet) (L : Lawful J) (time more : ℕ → ℕ → ℕ) (same : (i k : ℕ) → i < J.jobs → k < J.segments i → time i k ≡ more i k) where
  -- the running job is unfinished
  abbrev Going : Run → Type 0
  Going r = r.running < J.jobs → r.progress.segment r.running < J.segments r.running

  end_same : (t : ℕ) (r : Run) → Going r → end_segment J time t r ≡ end_segment J more t r
  end_same t r g = split r.running J.jobs
      (λ h. unfold end_segment in rw (same r.running (r.progress.segment r.running) h (g h)))
      (λ h. end_none J time t r h ∙ sym (end_none J more t r h))

  tick_going : (t : ℕ) (r : Run) → Going (run_tick J t r)
  tick_going t r = split (dispatched J t r) J.jobs
      (λ h. rw (tick_some J t r (dispatched J t r) refl h) (λ q. ready_open J r.progress t (dispatched J t r) (best_ready J L r.progress t h)))
      (λ h. rw (tick_none J t r h) (λ q. absurd (omega arith)))

  switches_same : (n t : ℕ) (r : Run) → Going r → switches J time n t r ≡ switches J more n t r
  switches_same zero t r g = unfold switches in refl
  switches_same (suc n) t r g =
      let e : Run = end_segment J more t r in
      switches_some J time t r e (end_same t r g) n
      ∙ ap (λ (l : List Switch). cond (over J e) (last_switch J e.due) (switch_at J t e ++ l)) (switches_same n (suc t) (run_tick J t e) (tick_going t e))
      ∙ sym (switches_some J more t r e refl n)

  ends_same : (n t : ℕ) (r : Run) → Going r → ends J time n t r ≡ ends J more n t r
  ends_same zero t r g = unfold ends in refl
  ends_same (suc n) t r g =
      let e : Run = end_segment J more t r in
      ends_some J time t r e (end_same t r g) n
      ∙ ap (cond (over J e) true) (ends_same n (suc t) (run_tick J t e) (tick_going t e))
      ∙ sym (ends_some J more t r e refl n)

  pub run_same : run_of J time ≡ run_of J more
  run_same = switches_same (suc J.frame) 0 (fresh J) (λ h. absurd (omega arith))

  pub frame_same : is_in_frame J time ≡ is_in_frame J more
  frame_same = ends_same (suc J.frame) 0 (fresh J) (λ h. absurd (omega arith))
