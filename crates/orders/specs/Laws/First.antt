-- The first dispatch, of all runs at once.
use Rattle.kernel.specs.Laws.Sound.{first_inside}
use Rattle.std.specs.Prelude.{◌≡◌, refl, ◌+◌, ◌≤◌, ◌<◌}
use Rattle.std.proofs.Common.{arith}
use Rattle.std.proofs.lemmas.Bool.{false≢true}
use Rattle.kernel.specs.Rules.{JobSet, FIRST}
use Rattle.kernel.specs.Laws.Pick.{disp}
use Rattle.kernel.specs.Laws.Control.{Lawful, after, released}
use Rattle.kernel.specs.Jobs.{sum}
use Rattle.kernel.specs.Laws.Fall.{potential, potential_start, fall_cut, unbegun}
use Rattle.kernel.specs.Laws.Step.{dispatch, first_state}
use Rattle.orders.specs.Laws.Box.{Span, child}
use Rattle.orders.specs.Laws.Spans.{SpanOk}
use Rattle.orders.specs.Laws.Child.{Fits, child_fits}
use Rattle.orders.specs.Laws.Walk.{first_child, enough}

module _ (J : JobSet) (L : Lawful J) where
  abbrev first_span : Span
  first_span = record { first = 0; last = 0; job = after J unbegun 0 }

  first_ok : SpanOk J unbegun 0 0 first_span
  first_ok = record {
    low = omega arith;
    order = omega arith;
    high = omega arith;
    same = λ t h1 h2. let e : t ≡ 0 = omega arith in rw e (disp _ _ _ (released J L unbegun) 0);
    rise = omega arith;
  }

  pub first_fits : Fits J (first_child J)
  unfolding child dispatch
  first_fits =
      let F = child_fits J L FIRST unbegun J.shortest J.longest first_span 0 0 first_ok
      (λ i b. absurd (false≢true (unfold unbegun in b))) L.ordered in
      record { span = omega arith; from = omega arith; to = omega arith; order = L.ordered; kept = F.kept }

  -- it has begun a job, so that fewer switches than segments plus jobs are to come
  pub first_less : potential J (first_state J).control < sum J.segments J.jobs + J.jobs
  unfolding dispatch
  first_less =
      omega (arith, fall_cut J unbegun (after J unbegun 0) (first_inside J L) (unfold unbegun in refl), potential_start J)

  pub first_enough : potential J (first_state J).control ≤ enough J
  first_enough = omega (arith, first_less)
