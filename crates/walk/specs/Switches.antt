-- The switches that the code makes, of every control for whose weights the row of jobs holds the keys.
use Rattle.walk.specs.declared.state.Standing.{Standing}
use Rattle.kernel.specs.declared.jobs.Jobs.{Jobs}
use Rattle.std.specs.Prelude.{ℕ, ◌≤◌, ◌<◌, max, ◌≡◌, Option, Some, None, List}
use Rattle.kernel.specs.Rules.{JobSet, Kind, END, STEP}
use Rattle.kernel.specs.Held.{set_of}
use Rattle.kernel.specs.Laws.Tests.{iflt}
use Rattle.kernel.specs.Laws.Control.{Control, after}
use Rattle.orders.specs.Laws.Box.{Span}
use Rattle.orders.specs.Laws.Spans.{span}
use Rattle.kernel.specs.declared.kind.Kind.{Kind as CodeKind}
use Rattle.kernel.specs.declared.kind.Kind.TheVariants.{First as KindFirst, Cut}
use Rattle.walk.specs.declared.choice.Known.{Known}
use Rattle.walk.specs.State.{Keyed}
use Rattle.walk.specs.Choice.{First, Out, job_in}
use Rattle.walk.specs.declared.switches.Switch.{Switch}

abbrev pub leave_kind_for : JobSet → (i k : ℕ) → Kind
leave_kind_for J i k = iflt k (J.segments i) STEP END

-- when a job is released, and 0 where there is none
abbrev pub release_of : JobSet → Option ℕ → ℕ
release_of J None = 0
release_of J (Some d) = J.release d

-- the switch of the ticks of leaving from first to last to a job
abbrev pub switch_to : JobSet → CodeKind → (first last : ℕ) → Option ℕ → Switch
switch_to J kind first last job = record {
  kind = kind;
  first = first;
  last = last;
  job = job;
  from = max first (release_of J job);
  to = max last (release_of J job);
}

-- to job d
abbrev pub switch_for : JobSet → CodeKind → (first last d : ℕ) → Switch
switch_for J kind first last d = record {
  kind = kind;
  first = first;
  last = last;
  job = job_in J d;
  from = max first (J.release d);
  to = max last (J.release d);
}

abbrev pub switch_of : JobSet → CodeKind → Span → Switch
switch_of J kind s = switch_for J kind s.first s.last s.job

-- what a switch at tick t asks: the first unfinished job, and how many jobs are known to be released by then
pub record SwitchAsk (w : Jobs) (s : List Standing) (k : Known) (t : ℕ) : Type 0 where
  pub first : First w s k.first
  pub out : Out w t k.released

-- and a span: a row that holds the keys of some control
pub record SpanAsk (w : Jobs) (s : List Standing) (k : Known) (t latest : ℕ) : Type 0 where
  pub switch : SwitchAsk w s k t
  pub control : Control
  pub keyed : Keyed (set_of w) control s
  pub order : t ≤ latest
  pub small : latest < 4294967295

module _ (w : Jobs) (s : List Standing) where
  pub record Spanned (kind : CodeKind) (t latest : ℕ) (r : Switch) : Type 0 where
    pub spanned : (κ : Control) → Keyed (set_of w) κ s → r ≡ switch_of (set_of w) kind (span (set_of w) κ latest t)

  pub record Cuts (t : ℕ) (r : Switch) : Type 0 where
    pub cuts : (κ : Control) → Keyed (set_of w) κ s → r ≡ switch_for (set_of w) Cut t t (after (set_of w) κ t)

  pub record Begins (r : Switch) : Type 0 where
    pub begins : (κ : Control) → Keyed (set_of w) κ s
        → r ≡ switch_for (set_of w) KindFirst ((set_of w).release (after (set_of w) κ 0)) ((set_of w).release (after (set_of w) κ 0)) (after (set_of w) κ 0)
