-- The row of jobs at the start of a run, filled from the front.
use Rattle.kernel.specs.declared.jobs.Jobs.{Jobs}
use Rattle.std.proofs.Common.{ℕ, ◌+◌, ◌<◌, arith, ◌≡◌, refl, ap, ◌∙◌, List, length, get_or, set, replicate, length-set, get_or-set_same, get_or-set_other}
use Rattle.std.proofs.Math.Decide.{ℕ_discrete}
use Rattle.kernel.specs.Code.{time_at, no_standing}
use Rattle.kernel.specs.declared.state.Standing.{Standing}
use Rattle.kernel.proofs.Arrays.{all_over}

-- the first n have the time of their first segment left
pub record Filled (w : Jobs) (times : List ℕ) (l : List Standing) (n : ℕ) : Type 0 where
  pub jobs : length l ≡ 32
  pub segment : (i : ℕ) → (get_or l i no_standing).segment ≡ 0
  pub rest : (i : ℕ) → i < n → (get_or l i no_standing).rest ≡ time_at w times i 0

pub none_filled : (w : Jobs) (times : List ℕ) → Filled w times (replicate 32 no_standing) 0
none_filled w times = record {
  jobs = refl;
  segment = λ i. ap (λ (x : Standing). x.segment) (all_over no_standing 32 i);
  rest = λ i h. absurd (omega arith);
}

pub one_filled : (w : Jobs) (times : List ℕ) (l : List Standing) (n : ℕ) (v : Standing) → Filled w times l n → n < length l
    → v.segment ≡ (get_or l n no_standing).segment → v.rest ≡ time_at w times n 0 → Filled w times (set l n v) (n + 1)
one_filled w times l n v F h a b = record {
  jobs = length-set l n v ∙ F.jobs;
  segment = λ i. elim (ℕ_discrete i n) [
    | yes e ↦ rw (e, get_or-set_same l n v no_standing h) (a ∙ F.segment n)
    | no e ↦ rw (get_or-set_other l n i v no_standing e) (F.segment i)
  ];
  rest = λ i q. elim (ℕ_discrete i n) [
    | yes e ↦ rw (e, get_or-set_same l n v no_standing h) b
    | no e ↦ rw (get_or-set_other l n i v no_standing e) (F.rest i (omega arith))
  ];
}
