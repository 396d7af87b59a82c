-- What the keys in the row tell of the weights, and so of the choices of the theory.
use Rattle.walk.specs.declared.state.Standing.{Standing}
use Rattle.kernel.specs.declared.jobs.Jobs.{Jobs}
use Rattle.std.proofs.Common.{ℕ, ◌-◌, ◌/◌, ◌%◌, ◌≤◌, ◌<◌, max, arith, ◌∙◌, sym, ap}
use Rattle.std.proofs.Math.Nat.{mul-add-div, div-eq_of_lt}
use Rattle.std.specs.Prelude.{◌≡◌, List, Option, Some, None, MatchOption}
use Rattle.std.specs.Option.{unwrap_or}
use Rattle.kernel.specs.Rules.{JobSet}
use Rattle.kernel.specs.Jobs.{largest}
use Rattle.kernel.specs.Held.{set_of, Loaded}
use Rattle.kernel.specs.Laws.Tests.{split, if-lt, if-ge}
use Rattle.kernel.specs.Laws.Largest.{largest_same, le_largest}
use Rattle.kernel.specs.Laws.Key.{key_of, job_of, key_some, key_none, job_some, top_job, pick_released}
use Rattle.kernel.specs.Laws.Pick.{pick, first_above_law, first_open, first_law, next, disp, Released}
use Rattle.kernel.specs.Laws.Control.{Control, weight, after, above, released}
use Rattle.walk.specs.State.{Keyed, key_at}
use Rattle.walk.specs.Choice.{Out, OutBy, Ended, First, Reaches, Follows, job_in, weight_of, Aboves}

-- ---- a key and its weight

-- the weight is read back
weight_of_key : (w i : ℕ) → key_of w i / 32 ≡ w
weight_of_key w i = split 0 w
    (λ (h : 0 < w). rw (key_some w i h) (mul-add-div (omega arith) w (31 - i) ∙ omega (arith, div-eq_of_lt {n = 31 - i} {m = 32} (omega arith))))
    (λ (h : w ≤ 0). rw (key_none w i (omega arith)) (omega (arith, div-eq_of_lt {n = 0} {m = 32} (omega arith))))

-- a key of 0 has no weight
no_key : (w i : ℕ) → key_of w i ≡ 0 → w ≡ 0
no_key w i h = split 0 w (λ (q : 0 < w). omega (arith, key_some w i q)) (λ (q : w ≤ 0). omega arith)

some_key : (w i : ℕ) → 0 < key_of w i → 0 < w
some_key w i h = split 0 w (λ (q : 0 < w). q) (λ (q : w ≤ 0). omega (arith, key_none w i (omega arith)))

-- ---- the first unfinished job

-- none before it is unfinished, and it is, where it is a job
open_is : (n : ℕ) (r v : ℕ → ℕ) → Released n r v → (i : ℕ) → i ≤ n → ((j : ℕ) → j < i → v j ≡ 0) → (i < n → 0 < v i) → i ≡ first_open n r v
open_is n r v R i h none some =
    let f : ℕ = first_open n r v in
    let F = first_law n r v R in
    split f i
    (λ (q : f < i). omega (arith, F.real (omega arith), none f q))
    (λ (q : i ≤ f). split i f
    (λ (z : i < f). let l : i < n = omega (arith, F.inside) in let p : 0 < v i = some l in omega (arith, F.tie i l z (omega arith)))
    (λ (z : f ≤ i). omega arith))

-- ---- the jobs that are released

-- the releases after one that is later than t are later too
pub released_by : (w : Jobs) → Loaded w → (t m : ℕ) → m ≤ (set_of w).jobs → ((i : ℕ) → i < m → (set_of w).release i ≤ t)
    → (m < (set_of w).jobs → t < (set_of w).release m) → OutBy w t m
released_by w L t m h out next = record {
  inside = h;
  out = out;
  later = λ i (q : m ≤ i) (z : i < (set_of w).jobs). omega (arith, next (omega arith), L.lawful.sorted m i q z);
}

-- a search among the jobs from `out` on gives the first that is released later
pub released_found : {w : Jobs} {t out n : ℕ} (r : Option ℕ) → Loaded w → Out w t out → n ≡ (set_of w).jobs
    → MatchOption r ((k : ℕ) → out ≤ k → k < n → (set_of w).release k ≤ t)
    (λ i. (out ≤ i) × (i < n) × (t < (set_of w).release i) × ((k : ℕ) → out ≤ k → k < i → (set_of w).release k ≤ t))
    → OutBy w t (unwrap_or r n)
released_found {w} {t} {out} {n} None L O e f = released_by w L t n (omega arith)
    (λ i h. split i out (λ q. O.out i q) (λ q. f i q h)) (λ h. absurd (omega arith))
released_found {w} {t} {out} {n} (Some m) L O e f = released_by w L t m (omega arith)
    (λ i h. split i out (λ q. O.out i q) (λ q. f.3 i q h)) (λ h. f.2)

-- and one among the jobs from `done` on the first that has a key
pub first_found : {w : Jobs} {s : List Standing} {done n : ℕ} (r : Option ℕ) → Ended w s done → n ≡ (set_of w).jobs
    → MatchOption r ((k : ℕ) → done ≤ k → k < n → key_at s k ≡ 0)
    (λ i. (done ≤ i) × (i < n) × (0 < key_at s i) × ((k : ℕ) → done ≤ k → k < i → key_at s k ≡ 0))
    → First w s (unwrap_or r n)
first_found {w} {s} {done} {n} None E e f = record {
  before = record { inside = omega arith; ended = λ i h. split i done (λ q. E.ended i q) (λ q. f i q h) };
  unfinished = λ h. absurd (omega arith);
}
first_found {w} {s} {done} {n} (Some m) E e f = record {
  before = record { inside = omega arith; ended = λ i h. split i done (λ q. E.ended i q) (λ q. f.3 i q h) };
  unfinished = λ h. f.2;
}

pub out_by : {w : Jobs} {t out : ℕ} → OutBy w t out → Out w t out
out_by R = record { inside = R.inside; out = R.out }

-- what is released by a tick is so by a later one
pub out_later : {w : Jobs} {t u out : ℕ} → t ≤ u → Out w t out → Out w u out
out_later h O = record { inside = O.inside; out = λ i q. omega (arith, O.out i q) }

-- what comes before a job is released with it
pub out_first : {w : Jobs} {first out : ℕ} → Loaded w → first < (set_of w).jobs → out ≤ first → Out w ((set_of w).release first) out
out_first L h q = record { inside = omega arith; out = λ i z. L.lawful.sorted i _ (omega arith) h }

-- the first unfinished job is released already
pub reaches_now : {w : Jobs} {first out : ℕ} → out ≤ (set_of w).jobs → first < out → Reaches w first out out
reaches_now {w} {first} {out} h q = record {
  inside = h;
  some = q;
  reaches = λ t R. let e : max t ((set_of w).release first) ≡ t = omega (arith, R.out first q) in rw e R;
}

-- or the processor idles until it is
pub reaches_later : {w : Jobs} {first out m : ℕ} → first < (set_of w).jobs → out ≤ first → OutBy w ((set_of w).release first) m → Reaches w first out m
reaches_later {w} {first} {out} {m} h q M = record {
  inside = M.inside;
  some = split first m (λ z. z) (λ (z : m ≤ first). omega (arith, M.later first z h));
  reaches = λ t R. let e : max t ((set_of w).release first) ≡ (set_of w).release first = omega (arith, R.later first q h) in rw e M;
}

-- ---- the choices

-- no job from `out` on and below k has a weight above v
abbrev pub NoneAbove : (s : List Standing) (out v k : ℕ) → Type 0
NoneAbove s out v k = (i : ℕ) → out ≤ i → i < k → key_at s i / 32 ≤ v

module _ (w : Jobs) (s : List Standing) (L : Loaded w) where
  abbrev J : JobSet
  J = set_of w

  abbrev word : ℕ → ℕ
  word i = key_at s i

  abbrev laws : (κ : Control) → Released J.jobs J.release (weight J κ)
  laws = released J L.lawful

  opens : (first : ℕ) → First w s first → (κ : Control) → Keyed J κ s → first ≡ first_open J.jobs J.release (weight J κ)
  opens first F κ K = open_is J.jobs J.release (weight J κ) (laws κ) first F.before.inside
      (λ j q. no_key (weight J κ j) j (sym (K j (omega (arith, F.before.inside))) ∙ F.before.ended j q))
      (λ q. some_key (weight J κ first) first (rw (K first q) at (F.unfinished q)))

  -- the job of the largest key is the one that is dispatched
  pub follows : (first out m best : ℕ) → First w s first → first < J.jobs → Reaches w first out m → best ≡ largest word m → Follows w s out (Some (31 - best % 32))
  unfolding next
  follows first out m best F h R e = record {
    follows = λ t T κ K.
        let n : ℕ = J.jobs in
        let v : ℕ → ℕ = weight J κ in
        let none : v n ≡ 0 = (laws κ).v_n in
        let some : 0 < best = omega (arith, F.unfinished h, le_largest word m first R.some) in
        let left : after J κ t < n = (disp _ _ _ (laws κ) t).some first h (some_key (v first) first (rw (K first h) at (F.unfinished h))) in
        let same : 31 - best % 32 ≡ after J κ t = sym (job_some n best (λ z. omega arith))
        ∙ ap (job_of n) (e ∙ largest_same word (λ i. key_of (v i) i) m (λ i q. K i (omega (arith, R.inside))))
        ∙ top_job v n L.few_jobs none m R.inside
        ∙ sym (pick_released n J.release v (max t (J.release first)) m (R.reaches t T) none)
        ∙ ap (λ (f : ℕ). pick n J.release v (max t (J.release f))) (opens first F κ K) in
        ap Some same ∙ sym (if-lt (after J κ t) n (Some (after J κ t)) None left);
  }

  -- none is left
  pub follows_none : (first out : ℕ) → First w s first → J.jobs ≤ first → Follows w s out None
  follows_none first out F h = record {
    follows = λ t T κ K.
        let d : ℕ = after J κ t in
        let D = disp _ _ _ (laws κ) t in
        let last : J.jobs ≤ d = split d J.jobs
        (λ (q : d < J.jobs). omega (arith, D.real q, no_key (weight J κ d) d (sym (K d q) ∙ F.before.ended d (omega arith))))
        (λ (q : J.jobs ≤ d). q) in
        sym (if-ge d J.jobs (Some d) None last);
  }

  pub weighs : (i : ℕ) → i < J.jobs → (κ : Control) → Keyed J κ s → word i / 32 ≡ weight J κ i
  weighs i h κ K = ap (λ (n : ℕ). n / 32) (K i h) ∙ weight_of_key (weight J κ i) i

  pub weighs_none : (i : ℕ) → J.jobs ≤ i → (κ : Control) → Keyed J κ s → i ≤ J.jobs → 0 ≡ weight J κ i
  weighs_none i h κ K q = let e : i ≡ J.jobs = omega arith in sym (ap (weight J κ) e ∙ (laws κ).v_n)

  -- also where there is no such job
  pub weighs_in : (d : ℕ) → d ≤ J.jobs → (κ : Control) → Keyed J κ s → weight_of s (job_in J d) ≡ weight J κ d
  weighs_in d h κ K = split d J.jobs
      (λ (q : d < J.jobs). rw (if-lt d J.jobs (Some d) None q) (weighs d q κ K))
      (λ (q : J.jobs ≤ d). rw (if-ge d J.jobs (Some d) None q) (weighs_none d q κ K h))

  -- a release after a of a job of weight above v is not among those that were passed
  not_passed : (out v k a i : ℕ) (κ : Control) → Keyed J κ s → OutBy w a out → NoneAbove s out v k → i < J.jobs → v < weight J κ i → a < J.release i → k ≤ i
  not_passed out v k a i κ K R N h q z = split i k
      (λ (l : i < k). split i out
      (λ (m : i < out). omega (arith, R.out i m))
      (λ (m : out ≤ i). omega (arith, N i m l, weighs i h κ K)))
      (λ l. l)

  -- there is none before e
  pub aboves_none : (out v e k : ℕ) → NoneAbove s out v k → (k < J.jobs → e ≤ J.release k) → Aboves w s out v e e
  aboves_none out v e k N late = record {
    aboves = λ a R κ K.
        let x : ℕ = above J κ a v e in
        let A = first_above_law _ _ _ (laws κ) a v e in
        split x e
        (λ (q : x < e).
        let (i, a1, a2, a3, a4) = A.hit q in
        let l : k ≤ i = not_passed out v k a i κ K R N a1 a2 a3 in
        omega (arith, late (omega arith), L.lawful.sorted k i l a1))
        (λ (q : e ≤ x). omega (arith, A.le));
  }

  -- it is that of job k
  pub aboves_some : (out v e k : ℕ) → NoneAbove s out v k → k < J.jobs → out ≤ k → J.release k < e → v < word k / 32 → Aboves w s out v e (J.release k)
  aboves_some out v e k N h o q z = record {
    aboves = λ a R κ K.
        let x : ℕ = above J κ a v e in
        let A = first_above_law _ _ _ (laws κ) a v e in
        let heavy : v < weight J κ k = omega (arith, weighs k h κ K) in
        let up : x ≤ J.release k = A.least k h heavy (R.later k o h) in
        let (i, a1, a2, a3, a4) = A.hit (omega arith) in
        let l : k ≤ i = not_passed out v k a i κ K R N a1 a2 a3 in
        omega (arith, L.lawful.sorted k i l a1);
  }
