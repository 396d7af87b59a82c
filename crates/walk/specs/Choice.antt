-- What the choices of the code are, of every control for whose weights the row of jobs holds the keys.
use Rattle.walk.specs.declared.state.Standing.{Standing}
use Rattle.kernel.specs.declared.jobs.Jobs.{Jobs}
use Rattle.std.specs.Prelude.{ℕ, ◌/◌, ◌≤◌, ◌<◌, max, ◌≡◌, Option, Some, None, List}
use Rattle.kernel.specs.Rules.{JobSet}
use Rattle.kernel.specs.Held.{set_of}
use Rattle.kernel.specs.Laws.Tests.{iflt}
use Rattle.kernel.specs.Laws.Control.{Control, after, above}
use Rattle.kernel.specs.Laws.Key.{ReleasedBy}
use Rattle.walk.specs.declared.choice.Known.{Known}
use Rattle.walk.specs.State.{Keyed, key_at}

-- ---- what is known of the first jobs

-- those below m are released by tick t
pub record Out (w : Jobs) (t m : ℕ) : Type 0 where
  pub inside : m ≤ (set_of w).jobs
  pub out : (i : ℕ) → i < m → (set_of w).release i ≤ t

-- those and no others
abbrev pub OutBy : (w : Jobs) (t out : ℕ) → Type 0
OutBy w t out = ReleasedBy (set_of w).jobs (set_of w).release t out

-- those below `done` have no key
abbrev pub NoKeys : (s : List Standing) (done : ℕ) → Type 0
NoKeys s done = (i : ℕ) → i < done → key_at s i ≡ 0

-- they are finished
pub record Ended (w : Jobs) (s : List Standing) (done : ℕ) : Type 0 where
  pub inside : done ≤ (set_of w).jobs
  pub ended : NoKeys s done

-- and the next is not
pub record First (w : Jobs) (s : List Standing) (first : ℕ) : Type 0 where
  pub before : Ended w s first
  pub unfinished : first < (set_of w).jobs → 0 < key_at s first

-- ---- the choices

-- job d, where the set has it
abbrev pub job_in : JobSet → ℕ → Option ℕ
job_in J d = iflt d J.jobs (Some d) None

-- what a job's key holds above its number, and 0 where there is none
abbrev pub weight_of : List Standing → Option ℕ → ℕ
weight_of s None = 0
weight_of s (Some d) = key_at s d / 32

pub record TopAsk (s : List Standing) (first out : ℕ) : Type 0 where
  pub ended : NoKeys s first
  pub order : first ≤ out
  pub few : out ≤ 32

pub record ReachAsk (w : Jobs) (first out : ℕ) : Type 0 where
  pub job : first < (set_of w).jobs
  pub inside : out ≤ (set_of w).jobs

-- where `out` jobs are released at a leaving, as many as r are released at the dispatch after it
pub record Reaches (w : Jobs) (first out r : ℕ) : Type 0 where
  pub inside : r ≤ (set_of w).jobs
  pub some : first < r
  pub reaches : (t : ℕ) → OutBy w t out → OutBy w (max t ((set_of w).release first)) r

pub record NextAsk (w : Jobs) (s : List Standing) (k : Known) : Type 0 where
  pub first : First w s k.first
  pub inside : k.released ≤ (set_of w).jobs

module _ (w : Jobs) (s : List Standing) where
  -- the job dispatched after a leaving at a tick by which `out` jobs are released
  pub record Follows (out : ℕ) (r : Option ℕ) : Type 0 where
    pub follows : (t : ℕ) → OutBy w t out → (κ : Control) → Keyed (set_of w) κ s → r ≡ job_in (set_of w) (after (set_of w) κ t)

  -- the first release after a tick by which `out` jobs are released, before e, of a job of weight above v; else e
  pub record Aboves (out v e r : ℕ) : Type 0 where
    pub aboves : (a : ℕ) → OutBy w a out → (κ : Control) → Keyed (set_of w) κ s → r ≡ above (set_of w) κ a v e
