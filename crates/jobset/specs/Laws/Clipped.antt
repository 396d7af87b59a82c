-- Two job sets that agree on their jobs and on the segments of these are the same once each has 0 elsewhere.
use Rattle.std.specs.Prelude.{ℕ, ◌≤◌, ◌<◌, ◌≡◌, refl}
use Rattle.std.proofs.Common.{arith, sym, ap, ◌∙◌, lt-ltb, le-ltb}
use Rattle.std.proofs.Math.Path.{fun_ext}
use Rattle.kernel.specs.Rules.{JobSet}
use Rattle.kernel.specs.Jobs.{if_job, if_segment, clipped}
use Rattle.kernel.specs.Laws.Tests.{split}

-- ---- a job below the number of jobs is as it was, and another is 0

pub if_job_lem : (n : ℕ) (f : ℕ → ℕ) (i : ℕ) → i < n → if_job n f i ≡ f i
if_job_lem n f i h = rw (lt-ltb i n h)

pub if_no_job : (n : ℕ) (f : ℕ → ℕ) (i : ℕ) → n ≤ i → if_job n f i ≡ 0
if_no_job n f i h = rw (le-ltb i n h)

pub if_segment_lem : (s : ℕ → ℕ) (f : ℕ → ℕ → ℕ) (i k : ℕ) → k < s i → if_segment s f i k ≡ f i k
if_segment_lem s f i k h = rw (lt-ltb k (s i) h)

pub if_no_segment : (s : ℕ → ℕ) (f : ℕ → ℕ → ℕ) (i k : ℕ) → s i ≤ k → if_segment s f i k ≡ 0
if_no_segment s f i k h = rw (le-ltb k (s i) h)

-- a job with a segment is one
pub is_job : (n : ℕ) (s : ℕ → ℕ) (i k : ℕ) → k < if_job n s i → i < n
is_job n s i k h = split i n (λ (q : i < n). q) (λ (q : n ≤ i). absurd (omega (arith, if_no_job n s i q)))

-- ---- agreement

job_same : (n : ℕ) (f g : ℕ → ℕ) → ((i : ℕ) → i < n → f i ≡ g i) → if_job n f ≡ if_job n g
job_same n f g h = fun_ext (λ i. split i n
    (λ (q : i < n). if_job_lem n f i q ∙ h i q ∙ sym (if_job_lem n g i q))
    (λ (q : n ≤ i). if_no_job n f i q ∙ sym (if_no_job n g i q)))

segment_same : (n : ℕ) (s : ℕ → ℕ) (f g : ℕ → ℕ → ℕ) → ((i k : ℕ) → i < n → k < s i → f i k ≡ g i k)
    → if_segment (if_job n s) f ≡ if_segment (if_job n s) g
segment_same n s f g h = fun_ext (λ i. fun_ext (λ k. split k (if_job n s i)
    (λ (q : k < if_job n s i).
    let j : i < n = is_job n s i k q in
    if_segment_lem (if_job n s) f i k q ∙ h i k j (omega (arith, if_job_lem n s i j)) ∙ sym (if_segment_lem (if_job n s) g i k q))
    (λ (q : if_job n s i ≤ k). if_no_segment (if_job n s) f i k q ∙ sym (if_no_segment (if_job n s) g i k q))))

pub record Agree (J K : JobSet) : Type 0 where
  pub frame : J.frame ≡ K.frame
  pub jobs : J.jobs ≡ K.jobs
  pub release : (i : ℕ) → i < K.jobs → J.release i ≡ K.release i
  pub base : (i : ℕ) → i < K.jobs → J.base i ≡ K.base i
  pub segments : (i : ℕ) → i < K.jobs → J.segments i ≡ K.segments i
  pub priority : (i k : ℕ) → i < K.jobs → k < K.segments i → J.priority i k ≡ K.priority i k
  pub shortest : (i k : ℕ) → i < K.jobs → k < K.segments i → J.shortest i k ≡ K.shortest i k
  pub longest : (i k : ℕ) → i < K.jobs → k < K.segments i → J.longest i k ≡ K.longest i k

module _ (J K : JobSet) (A : Agree J K) where
  jobs_as : (f g : ℕ → ℕ) → ((i : ℕ) → i < K.jobs → f i ≡ g i) → if_job J.jobs f ≡ if_job K.jobs g
  jobs_as f g h = ap (λ (n : ℕ). if_job n f) A.jobs ∙ job_same K.jobs f g h

  segments_as : (f g : ℕ → ℕ → ℕ) → ((i k : ℕ) → i < K.jobs → k < K.segments i → f i k ≡ g i k)
      → if_segment (if_job J.jobs J.segments) f ≡ if_segment (if_job K.jobs K.segments) g
  segments_as f g h =
      ap (λ (s : ℕ → ℕ). if_segment s f) (jobs_as J.segments K.segments A.segments)
      ∙ segment_same K.jobs K.segments f g h

  pub clipped_same : clipped J ≡ clipped K
  unfolding clipped
  clipped_same = λ d. record {
    frame = A.frame d;
    jobs = A.jobs d;
    release = jobs_as J.release K.release A.release d;
    base = jobs_as J.base K.base A.base d;
    segments = jobs_as J.segments K.segments A.segments d;
    priority = segments_as J.priority K.priority A.priority d;
    shortest = segments_as J.shortest K.shortest A.shortest d;
    longest = segments_as J.longest K.longest A.longest d;
  }

-- it agrees with what it was made of
pub clipped_agrees : (J : JobSet) → Agree (clipped J) J
unfolding clipped
clipped_agrees J = record {
  frame = refl;
  jobs = refl;
  release = if_job_lem J.jobs J.release;
  base = if_job_lem J.jobs J.base;
  segments = if_job_lem J.jobs J.segments;
  priority = inside J.priority;
  shortest = inside J.shortest;
  longest = inside J.longest;
}
  where
    inside : (f : ℕ → ℕ → ℕ) (i k : ℕ) → i < J.jobs → k < J.segments i → if_segment (if_job J.jobs J.segments) f i k ≡ f i k
    inside f i k h q = if_segment_lem (if_job J.jobs J.segments) f i k (omega (arith, if_job_lem J.jobs J.segments i h))
