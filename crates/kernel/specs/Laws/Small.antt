-- The job set of an accepted table: where there is a segment there is its job, and their numbers are small.
use Rattle.kernel.specs.declared.jobs.Jobs.{Jobs}
use Rattle.std.specs.Prelude.{◌≡◌, refl, Bool, true, false, cond, ℕ, ◌+◌, ◌*◌, ◌≤◌, ◌<◌, get_or, ltb}
use Rattle.std.proofs.Common.{arith, ltb-true}
use Rattle.kernel.specs.Held.{no_job, job_at, set_of, Loaded}
use Rattle.kernel.specs.Code.{weight_at}
use Rattle.kernel.specs.Laws.Tests.{split, if-lt, if-ge}
use Rattle.kernel.specs.Laws.Key.{key_of, key_none, key_most}

pub has_job : (w : Jobs) (i k : ℕ) → k < (set_of w).segments i → i < (set_of w).jobs
unfolding set_of job_at
has_job w i k = go (ltb i w.count) refl
  where
    go : (b : Bool) → ltb i w.count ≡ b → k < (cond b (get_or w.job i no_job) no_job).segments → i < w.count
    go true e h = ltb-true i w.count e
    go false e h = absurd (omega arith)

-- of a job that has a segment k
pub record SmallAt (w : Jobs) (i k : ℕ) : Type 0 where
  pub job : i < 32
  pub base : (set_of w).base i ≤ 200
  pub priority : (set_of w).priority i k ≤ 201

pub small_at : (w : Jobs) → Loaded w → (i k : ℕ) → k < (set_of w).segments i → SmallAt w i k
small_at w L i k h =
    let j = has_job w i k h in
    record { job = omega (arith, j, L.few_jobs); base = L.small_base i j; priority = L.small_priority i k j h }

weight_small : (w : Jobs) (i k : ℕ) → SmallAt w i k → (begun : Bool) → cond begun (2 * (set_of w).priority i k + 2) (2 * (set_of w).base i + 1) ≤ 404
weight_small w i k S true = omega (arith, S.priority)
weight_small w i k S false = omega (arith, S.base)

-- so its key is short: 16 bits hold it
pub key_short : (w : Jobs) → Loaded w → (i k : ℕ) (begun : Bool) → key_of (weight_at (set_of w) i k begun) i < 65536
key_short w L i k begun = split k ((set_of w).segments i)
    (λ (h : k < (set_of w).segments i).
    let v : ℕ = cond begun (2 * (set_of w).priority i k + 2) (2 * (set_of w).base i + 1) in
    rw (if-lt k ((set_of w).segments i) v 0 h) (omega (arith, key_most v i 404 (weight_small w i k (small_at w L i k h) begun))))
    (λ (h : (set_of w).segments i ≤ k).
    let v : ℕ = cond begun (2 * (set_of w).priority i k + 2) (2 * (set_of w).base i + 1) in
    omega (arith, key_none _ i (if-ge k ((set_of w).segments i) v 0 h)))
