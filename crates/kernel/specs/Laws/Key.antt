-- One number per job that holds its weight and its number: the largest key is that of the job that is dispatched.
use Rattle.std.specs.Prelude.{◌≡◌}
use Rattle.std.proofs.Math.Path.{refl, sym}
use Rattle.std.proofs.Common.{ap, ◌∙◌, mod-eq_of_lt}
use Prim.Native.Nat.{ℕ, zero, suc, ◌+◌, ◌-◌, ◌*◌, ◌%◌, ◌≤◌, ◌<◌, max}
use native.Mathlib.Omega.{arith}
use Rattle.std.proofs.Math.Nat.{mul-add-mod_self_left}
use Rattle.kernel.specs.Jobs.{largest}
use Rattle.kernel.specs.Laws.Tests.{split, iflt, if-lt, if-ge}
use Rattle.kernel.specs.Laws.Pick.{heaviest, Heaviest, heaviest_law, rank, rank_eq, pick}

-- the larger weight has the larger key, and among equals the lower number; no weight, no key
unfoldable pub key_of : (weight i : ℕ) → ℕ
key_of weight i = iflt 0 weight (32 * weight + (31 - i)) 0

-- the job of a key
unfoldable pub job_of : (none key : ℕ) → ℕ
job_of none key = iflt 0 key (31 - key % 32) none

pub key_some : (w i : ℕ) → 0 < w → key_of w i ≡ 32 * w + (31 - i)
unfolding key_of
key_some w i h = if-lt 0 w _ _ h

pub key_none : (w i : ℕ) → w ≡ 0 → key_of w i ≡ 0
unfolding key_of
key_none w i h = if-ge 0 w _ _ (omega arith)

-- a small weight has a small key
pub key_most : (w i m : ℕ) → w ≤ m → key_of w i < 32 * (m + 1)
key_most w i m h = split 0 w
    (λ (q : 0 < w). omega (arith, key_some w i q))
    (λ (q : w ≤ 0). omega (arith, key_none w i (omega arith)))

-- the job is read back
pub job_key : (none w i : ℕ) → 0 < w → i < 32 → job_of none (key_of w i) ≡ i
unfolding job_of
job_key none w i h l =
    let m : (32 * w + (31 - i)) % 32 ≡ 31 - i = mul-add-mod_self_left 32 w (31 - i) ∙ mod-eq_of_lt (omega arith) in
    rw (key_some w i h) (if-lt 0 (32 * w + (31 - i)) _ _ (omega arith) ∙ omega (arith, m))

pub job_none : (none key : ℕ) → key ≡ 0 → job_of none key ≡ none
unfolding job_of
job_none none key h = if-ge 0 key _ _ (omega arith)

pub job_some : (none key : ℕ) → (key ≡ 0 → ⊥) → job_of none key ≡ 31 - key % 32
unfolding job_of
job_some none key h = if-lt 0 key _ _ (omega arith)

-- of two jobs the one of larger weight, and among equals the lower number, has the larger key
pub key_larger : (v w i j : ℕ) → i < j → j < 32 → max (key_of v i) (key_of w j) ≡ iflt v w (key_of w j) (key_of v i)
key_larger v w i j h l = split v w
    (λ (q : v < w). rw (if-lt v w (key_of w j) (key_of v i) q) (split 0 v
    (λ (z : 0 < v). omega (arith, key_some v i z, key_some w j (omega arith)))
    (λ (z : v ≤ 0). omega (arith, key_none v i (omega arith)))))
    (λ (q : w ≤ v). rw (if-ge v w (key_of w j) (key_of v i) q) (split 0 w
    (λ (z : 0 < w). omega (arith, key_some w j z, key_some v i (omega arith)))
    (λ (z : w ≤ 0). omega (arith, key_none w j (omega arith)))))

-- ---- the largest key of the jobs below m

module _ (w : ℕ → ℕ) (n : ℕ) (few : n ≤ 32) (none : w n ≡ 0) where
  abbrev keys : ℕ → ℕ
  keys i = key_of (w i) i

  top_step : (m d : ℕ) → m < n → Heaviest w n m d → max (keys d) (keys m) ≡ keys (iflt (w d) (w m) m d)
  top_step m d h H = split d n
      (λ (q : d < n). key_larger (w d) (w m) d m (H.low q) (omega arith) ∙ moved d)
      (λ (q : n ≤ d).
      let e : d ≡ n = omega (arith, H.inside) in
      let z : w d ≡ 0 = ap w e ∙ none in
      let k : keys d ≡ 0 = key_none (w d) d z in
      split 0 (w m)
      (λ (l : 0 < w m). rw (if-lt (w d) (w m) m d (omega arith)) (omega arith))
      (λ (l : w m ≤ 0). rw (if-ge (w d) (w m) m d (omega arith)) (omega (arith, key_none (w m) m (omega arith)))))
    where
      moved : (d : ℕ) → iflt (w d) (w m) (keys m) (keys d) ≡ keys (iflt (w d) (w m) m d)
      moved d = split (w d) (w m) (λ h. simp if-lt) (λ h. simp if-ge)

  pub top_key : (m : ℕ) → m ≤ n → largest keys m ≡ keys (heaviest w n m)
  unfolding largest heaviest
  top_key zero h = sym (key_none (w n) n none)
  top_key (suc m) h = rw (top_key m (omega arith)) (top_step m (heaviest w n m) h (heaviest_law w n m none (omega arith)))

  -- the job of the largest key is the heaviest
  pub top_job : (m : ℕ) → m ≤ n → job_of n (largest keys m) ≡ heaviest w n m
  top_job m h =
      let d : ℕ = heaviest w n m in
      let H = heaviest_law w n m none h in
      ap (job_of n) (top_key m h) ∙ split d n
      (λ (q : d < n). job_key n (w d) d (H.real q) (omega arith))
      (λ (q : n ≤ d).
      let e : d ≡ n = omega (arith, H.inside) in
      rw (key_none (w d) d (ap w e ∙ none)) (job_none n 0 refl ∙ sym e))

-- ---- the jobs that are released come first

-- the jobs below m are those released by tick t
pub record ReleasedBy (n : ℕ) (r : ℕ → ℕ) (t m : ℕ) : Type 0 where
  pub inside : m ≤ n
  pub out : (i : ℕ) → i < m → r i ≤ t
  pub later : (i : ℕ) → m ≤ i → i < n → t < r i

module _ (n : ℕ) (r v : ℕ → ℕ) (t m : ℕ) (R : ReleasedBy n r t m) (none : v n ≡ 0) where
  -- what counts at t of those below m is their weight, and of the others nothing
  rank_out : (i : ℕ) → i < m → rank n r v t i ≡ v i
  rank_out i h = rank_eq n r v t i (R.out i h)

  rank_later : (i : ℕ) → m ≤ i → i < n → rank n r v t i ≡ 0
  unfolding rank
  rank_later i h l = if-lt t (r i) 0 (v i) (R.later i h l)

  rank_none : rank n r v t n ≡ 0
  unfolding rank
  rank_none = split t (r n) (λ h. if-lt t (r n) 0 (v n) h) (λ h. if-ge t (r n) 0 (v n) h ∙ none)

  same_rank : (d k : ℕ) → k ≤ m → Heaviest v n k d → rank n r v t d ≡ v d
  same_rank d k h H = split d n
      (λ (q : d < n). rank_out d (omega (arith, H.low q)))
      (λ (q : n ≤ d). let e : d ≡ n = omega (arith, H.inside) in ap (rank n r v t) e ∙ rank_none ∙ sym (ap v e ∙ none))

  first_same : (k : ℕ) → k ≤ m → heaviest (rank n r v t) n k ≡ heaviest v n k
  unfolding heaviest
  first_same zero h = refl
  first_same (suc k) h =
      rw (first_same k (omega arith), same_rank (heaviest v n k) k (omega arith) (heaviest_law v n k none (omega (arith, R.inside))), rank_out k h)

  rest_none : (k : ℕ) → m ≤ k → k ≤ n → heaviest (rank n r v t) n k ≡ heaviest v n m
  unfolding heaviest
  rest_none zero h l = let e : m ≡ 0 = omega arith in rw e
  rest_none (suc k) h l = split m (suc k)
      (λ (q : m < suc k). let d : ℕ = heaviest (rank n r v t) n k in
      if-ge (rank n r v t d) (rank n r v t k) k d (omega (arith, rank_later k (omega arith) l)) ∙ rest_none k (omega arith) (omega arith))
      (λ (q : suc k ≤ m). let e : m ≡ suc k = omega arith in rw e (unfold heaviest in first_same (suc k) (omega arith)))

  -- the job dispatched at t is the heaviest of those below m
  pub pick_released : pick n r v t ≡ heaviest v n m
  unfolding pick
  pick_released = rest_none n R.inside (omega arith)
