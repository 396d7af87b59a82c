-- The switches of the code from the choices that it makes.
use Rattle.walk.specs.declared.state.Standing.{Standing}
use Rattle.kernel.specs.declared.jobs.Jobs.{Jobs}
use Rattle.std.specs.Prelude.{ℕ, suc, ◌+◌, ◌-◌, ◌≤◌, ◌<◌, ◌≡◌, max, Option, Some, None, List}
use Rattle.std.proofs.Common.{arith, sym, ap, ap₂, ◌∙◌, le-ltb}
use Rattle.kernel.specs.Rules.{JobSet}
use Rattle.kernel.specs.Held.{job_at, set_of, Loaded}
use Rattle.kernel.specs.Laws.Tests.{split, if-lt, if-ge}
use Rattle.walk.specs.Laws.Keyed.{weighs_in}
use Rattle.kernel.specs.Laws.Pick.{disp}
use Rattle.kernel.specs.Laws.Control.{Control, weight, after, above, released}
use Rattle.orders.specs.Laws.Spans.{reach, above_after}
use Rattle.kernel.specs.declared.kind.Kind.{Kind as CodeKind}
use Rattle.kernel.specs.declared.kind.Kind.TheVariants.{First as KindFirst, Cut}
use Rattle.walk.specs.declared.choice.Known.{Known}
use Rattle.walk.specs.State.{Keyed}
use Rattle.walk.specs.Choice.{OutBy, Follows, job_in, weight_of, Aboves}
use Rattle.walk.specs.Switches.{release_of, switch_to, switch_for, SpanAsk, Spanned, Cuts, Begins}
use Rattle.walk.specs.declared.switches.Switch.{Switch}

-- a job that the set does not have is released at 0
no_release : (w : Jobs) (d : ℕ) → (set_of w).jobs ≤ d → (set_of w).release d ≡ 0
unfolding set_of job_at
no_release w d h = rw (le-ltb d w.count h)

module _ (w : Jobs) (s : List Standing) where
  abbrev J : JobSet
  J = set_of w

  -- a span has an end
  pub some_end : (k : Known) (t m v latest e : ℕ) → Loaded w → SpanAsk w s k t latest → OutBy w t m → Aboves w s m v (latest + 1) e → 1 ≤ e
  some_end k t m v latest e L A R U =
      let κ : Control = A.control in
      omega (arith, U.aboves t R κ A.keyed, A.order, above_after J L.lawful κ t v (latest + 1) (omega (arith, A.order)))

  -- when a job is released that the set may not have
  release_in : (d : ℕ) → release_of J (job_in J d) ≡ J.release d
  release_in d = split d J.jobs
      (λ (h : d < J.jobs). rw (if-lt d J.jobs (Some d) None h))
      (λ (h : J.jobs ≤ d). rw (if-ge d J.jobs (Some d) None h) (sym (no_release w d h)))

  -- the switch to a job that the set may not have
  to_for : (kind : CodeKind) (first last d : ℕ) → switch_to J kind first last (job_in J d) ≡ switch_for J kind first last d
  to_for kind first last d =
      let e = release_in d in
      λ i. record { kind = kind; first = first; last = last; job = job_in J d; from = max first (e i); to = max last (e i) }

  pub spanned : (kind : CodeKind) (t m latest : ℕ) (d : Option ℕ) (v e : ℕ) (r : Switch) → Loaded w → OutBy w t m → Follows w s m d → v ≡ weight_of s d
      → Aboves w s m v (latest + 1) e → r ≡ switch_to J kind t (e - 1) d → Spanned w s kind t latest r
  spanned kind t m latest d v e r L R F W U x = record { spanned = λ κ K. x ∙ same κ K }
    where
      same : (κ : Control) → Keyed J κ s → switch_to J kind t (e - 1) d ≡ switch_for J kind t (reach J κ latest t - 1) (after J κ t)
      same κ K =
          let job : d ≡ job_in J (after J κ t) = F.follows t R κ K in
          let inside : after J κ t ≤ J.jobs = (disp _ _ _ (released J L.lawful κ) t).inside in
          let heavy : v ≡ weight J κ (after J κ t) = W ∙ ap (weight_of s) job ∙ weighs_in w s L (after J κ t) inside κ K in
          let end : latest + 1 ≡ suc latest = omega arith in
          let last : e ≡ reach J κ latest t = U.aboves t R κ K ∙ ap (λ (v : ℕ). above J κ t v (latest + 1)) heavy ∙ ap (above J κ t (weight J κ (after J κ t))) end in
          ap₂ (λ (n : ℕ) (y : Option ℕ). switch_to J kind t (n - 1) y) last job ∙ to_for kind t (reach J κ latest t - 1) (after J κ t)

  pub cuts : (t m : ℕ) (d : Option ℕ) (r : Switch) → OutBy w t m → Follows w s m d → r ≡ switch_to J Cut t t d → Cuts w s t r
  cuts t m d r R F x = record { cuts = λ κ K. x ∙ ap (switch_to J Cut t t) (F.follows t R κ K) ∙ to_for Cut t t (after J κ t) }

  pub begins : (m : ℕ) (d : Option ℕ) (tick : ℕ) (r : Switch) → OutBy w 0 m → Follows w s m d → tick ≡ release_of J d → r ≡ switch_to J KindFirst tick tick d → Begins w s r
  begins m d tick r R F e x = record {
    begins = λ κ K.
        let job = F.follows 0 R κ K in
        let at : tick ≡ J.release (after J κ 0) = e ∙ ap (release_of J) job ∙ release_in (after J κ 0) in
        x ∙ ap₂ (λ (n : ℕ) (y : Option ℕ). switch_to J KindFirst n n y) at job ∙ to_for KindFirst (J.release (after J κ 0)) (J.release (after J κ 0)) (after J κ 0);
  }
