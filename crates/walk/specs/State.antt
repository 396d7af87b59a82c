-- Where a walk stands, as the code holds it: how each of 32 jobs does.
use Rattle.std.specs.Prelude.{ℕ, ◌≤◌, ◌<◌, ◌≡◌, Bool, true, false, List, length, get_or}
use Rattle.kernel.specs.Rules.{JobSet}
use Rattle.kernel.specs.Code.{weight_at}
use Rattle.kernel.specs.Laws.Control.{Control, weight}
use Rattle.kernel.specs.Laws.Key.{key_of}
use Rattle.walk.specs.declared.state.Standing.{Standing}

-- where there is no such job
abbrev pub no_standing : Standing
no_standing = record { key = 0; segment = 0; least = 0; most = 0 }

abbrev pub standing_at : List Standing → ℕ → Standing
standing_at s i = get_or s i no_standing

abbrev pub key_at : List Standing → ℕ → ℕ
key_at s i = (standing_at s i).key

-- job i at the start of its segment k
abbrev pub start_at : JobSet → (i k : ℕ) → Bool → Standing
start_at J i k begun = record { key = key_of (weight_at J i k begun) i; segment = k; least = J.shortest i k; most = J.longest i k }

-- begun
abbrev pub begun_at : JobSet → (i k : ℕ) → Standing
begun_at J i k = start_at J i k true

-- not begun
abbrev pub new_at : JobSet → ℕ → Standing
new_at J i = start_at J i 0 false

-- dispatched
abbrev pub resumed_as : JobSet → ℕ → Standing → Standing
resumed_as J i x = record { key = key_of (weight_at J i x.segment true) i; segment = x.segment; least = x.least; most = x.most }

-- cut, with what is left
abbrev pub cut_as : Standing → (least most : ℕ) → Standing
cut_as x least most = record { key = x.key; segment = x.segment; least = least; most = most }

-- no job has begun
pub record Unbegun (J : JobSet) (s : List Standing) : Type 0 where
  pub size : length s ≡ 32
  pub jobs : (i : ℕ) → i < 32 → standing_at s i ≡ new_at J i

-- ---- what that stands for

-- the keys are those of a control's weights
abbrev pub Keyed : JobSet → Control → List Standing → Type 0
Keyed J κ s = (i : ℕ) → i < J.jobs → key_at s i ≡ key_of (weight J κ i) i

-- a control, and from what to what is left of each segment: it is held of the present segments, and later ones are untouched
pub record Stands (J : JobSet) (s : List Standing) (κ : Control) (least most : ℕ → ℕ → ℕ) : Type 0 where
  pub size : length s ≡ 32
  pub keyed : Keyed J κ s
  pub segment : (i : ℕ) → i < J.jobs → (standing_at s i).segment ≡ κ.segment i
  pub low : (i : ℕ) → i < J.jobs → (standing_at s i).least ≡ least i (κ.segment i)
  pub high : (i : ℕ) → i < J.jobs → (standing_at s i).most ≡ most i (κ.segment i)
  pub low_later : (i k : ℕ) → i < J.jobs → κ.segment i < k → least i k ≡ J.shortest i k
  pub high_later : (i k : ℕ) → i < J.jobs → κ.segment i < k → most i k ≡ J.longest i k
  pub small : (i : ℕ) → i < J.jobs → (standing_at s i).most ≤ 1000000
