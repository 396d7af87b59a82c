-- What a job set from a table owes, and dispatch by one weight per job.
use native.Mathlib.Bridge.{le_prop}
use mathlib.Core.Logic.{∥∥₁_elim}
use Rattle.std.specs.Prelude.{◌≡◌, Bool, true, false, cond, ℕ, zero, suc, ◌+◌, ◌*◌, ◌≤◌, ◌<◌, max}
use Rattle.std.proofs.Common.{arith}
use Rattle.kernel.specs.Rules.{JobSet, Progress, put, begun, Within}
use Rattle.kernel.specs.Laws.Tests.{split, iflt, if-ge}
use Rattle.kernel.specs.Laws.Pick.{pick, next, first_above, Released}

-- a job that has a segment
pub record Worker (J : JobSet) : Type 0 where
  pub job : ℕ
  pub inside : job < J.jobs
  pub some : 0 < J.segments job

-- The laws of the job set of a table. The job number that stands for none has nothing.
pub record Lawful (J : JobSet) : Type 0 where
  pub sorted : (i j : ℕ) → i ≤ j → j < J.jobs → J.release i ≤ J.release j
  pub raised : (i k : ℕ) → i < J.jobs → k < J.segments i → J.base i ≤ J.priority i k
  pub positive : (i k : ℕ) → i < J.jobs → k < J.segments i → 1 ≤ J.shortest i k
  pub ordered : (i k : ℕ) → i < J.jobs → k < J.segments i → J.shortest i k ≤ J.longest i k
  pub none_released : J.release J.jobs ≡ 0
  pub none_segments : J.segments J.jobs ≡ 0
  -- there is one
  pub worker : ∥ Worker J ∥₁

-- which one: it is looked for from the last job down
module _ (J : JobSet) (L : Lawful J) where
  look_below : (n : ℕ) → n ≤ J.jobs → ((i : ℕ) → n ≤ i → i < J.jobs → J.segments i ≤ 0) → Worker J
  look_below zero h none =
      let no : 1 ≤ 0 = ∥∥₁_elim L.worker le_prop (λ w. omega (arith, none w.job (omega arith) w.inside, w.some)) in
      absurd (omega (arith, no))
  look_below (suc n) h none = split 0 (J.segments n) (λ (s : 0 < J.segments n). record { job = n; inside = omega arith; some = s })
      (λ (z : J.segments n ≤ 0). look_below n (omega arith)
      (λ i a b. split n i (λ (q : n < i). none i q b) (λ (q : i ≤ n). let e : i ≡ n = omega arith in rw e z)))

  pub worker_found : Worker J
  worker_found = look_below J.jobs (omega arith) (λ i a b. absurd (omega arith))

-- every segment takes at least one tick
abbrev pub Positive : JobSet → (ℕ → ℕ → ℕ) → Type 0
Positive J time = (i k : ℕ) → i < J.jobs → k < J.segments i → 1 ≤ time i k

pub positive_times : (J : JobSet) → Lawful J → (time : ℕ → ℕ → ℕ) → Within J time → Positive J time
positive_times J L time W i k h q = omega (arith, L.positive i k h q, W.low i k h q)

-- of each job: its present segment, and whether it has begun
pub record Control : Type 0 where
  pub segment : ℕ → ℕ
  pub begun : ℕ → Bool

abbrev pub control_of : Progress → Control
control_of p = record { segment = p.segment; begun = begun p }

-- the running job leaves its segment
unfoldable pub leave : Control → ℕ → Control
leave κ j = record { segment = put κ.segment j (suc (κ.segment j)); begun = κ.begun }

-- d has begun
unfoldable pub mark : Control → ℕ → Control
mark κ d = record { segment = κ.segment; begun = put κ.begun d true }

-- twice the current priority, plus 2 if begun and 1 if not: the larger goes first; 0 if finished
unfoldable pub weight : JobSet → Control → ℕ → ℕ
weight J κ i = iflt (κ.segment i) (J.segments i) (cond (κ.begun i) (2 * J.priority i (κ.segment i) + 2) (2 * J.base i + 1)) 0

-- that of an unfinished job is not 0
pub weight_pos : (b : Bool) (priority base : ℕ) → 0 < cond b (2 * priority + 2) (2 * base + 1)
weight_pos true p x = omega arith
weight_pos false p x = omega arith

module _ (J : JobSet) (κ : Control) where
  -- the job dispatched at a tick, by weight
  abbrev pub picked : ℕ → ℕ
  picked t = pick J.jobs J.release (weight J κ) t

  -- the job that is dispatched next after a leaving at t
  abbrev pub after : ℕ → ℕ
  after t = next J.jobs J.release (weight J κ) t

  -- the tick at which it starts or resumes
  abbrev pub start_after : ℕ → ℕ
  start_after t = max t (J.release (after t))

  -- the first release after a, before e, of a job of weight above w; else e
  abbrev pub above : (a w e : ℕ) → ℕ
  above a w e = first_above J.jobs J.release (weight J κ) a w e

pub released : (J : JobSet) → Lawful J → (κ : Control) → Released J.jobs J.release (weight J κ)
unfolding weight
released J L κ = record { sorted = L.sorted; r_n = L.none_released; v_n = if-ge _ _ _ _ (omega (arith, L.none_segments)) }
