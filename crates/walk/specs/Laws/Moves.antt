-- The moves of a walk on its row of jobs: a job leaves its segment, is dispatched, is cut. The row still stands for the control and the limits.
use Rattle.kernel.specs.declared.jobs.Jobs.{Jobs}
use Rattle.std.specs.Prelude.{ℕ, suc, ◌+◌, ◌≤◌, ◌<◌, ◌≡◌, ◌≢◌, Bool, List, length}
use Rattle.std.proofs.Common.{arith, refl, sym, ap, ◌∙◌, le-ltb, length-set}
use Rattle.std.proofs.Math.Decide.{ℕ_discrete}
use Rattle.std.proofs.Math.Bool.{true}
use Rattle.kernel.specs.Rules.{JobSet}
use Rattle.kernel.specs.Code.{weight_at}
use Rattle.kernel.specs.Held.{segment_at, set_of, Loaded}
use Rattle.kernel.specs.Laws.Tests.{split}
use Rattle.kernel.specs.Laws.Places.{put_same, put_other, put2, put2_same, put2_cases}
use Rattle.kernel.specs.Laws.Control.{Control, leave, mark, weight}
use Rattle.kernel.specs.Laws.Key.{key_of}
use Rattle.std.proofs.Math.ListN.{set}
use Rattle.walk.specs.State.{standing_at, begun_at, resumed_as, cut_as, Stands}
use Rattle.walk.specs.Laws.Standing.{standing_cases}
use Rattle.walk.specs.declared.state.Standing.{Standing}

-- ---- job by job

-- what the row says of job i
pub record JobStands (J : JobSet) (κ : Control) (least most : ℕ → ℕ → ℕ) (i : ℕ) (x : Standing) : Type 0 where
  pub key : x.key ≡ key_of (weight J κ i) i
  pub segment : x.segment ≡ κ.segment i
  pub low : x.least ≡ least i (κ.segment i)
  pub high : x.most ≡ most i (κ.segment i)
  pub small : x.most ≤ 1000000

-- a limit of later segments is that of the job set
abbrev Later : JobSet → Control → (limit own : ℕ → ℕ → ℕ) → Type 0
Later J κ limit own = (i k : ℕ) → i < J.jobs → κ.segment i < k → limit i k ≡ own i k

module _ (J : JobSet) where
  job_stands : (s : List Standing) (κ : Control) (least most : ℕ → ℕ → ℕ) → Stands J s κ least most
      → (i : ℕ) → i < J.jobs → JobStands J κ least most i (standing_at s i)
  job_stands s κ least most S i h =
      record { key = S.keyed i h; segment = S.segment i h; low = S.low i h; high = S.high i h; small = S.small i h }

  -- all jobs do
  pub all_stand : (s : List Standing) (κ : Control) (least most : ℕ → ℕ → ℕ) → length s ≡ 32
      → ((i : ℕ) → i < J.jobs → JobStands J κ least most i (standing_at s i))
      → Later J κ least J.shortest → Later J κ most J.longest → Stands J s κ least most
  all_stand s κ least most l f low high = record {
    size = l;
    keyed = λ i h. (f i h).key;
    segment = λ i h. (f i h).segment;
    low = λ i h. (f i h).low;
    high = λ i h. (f i h).high;
    low_later = low;
    high_later = high;
    small = λ i h. (f i h).small;
  }

  -- one job is put, and what is said of the others stays
  put_stands : (s : List Standing) (κ κ' : Control) (least most least' most' : ℕ → ℕ → ℕ) (j : ℕ) (x : Standing) → Stands J s κ least most → j < 32
      → JobStands J κ' least' most' j x
      → ((i : ℕ) → i ≢ j → (y : Standing) → JobStands J κ least most i y → JobStands J κ' least' most' i y)
      → Later J κ' least' J.shortest → Later J κ' most' J.longest → Stands J (set s j x) κ' least' most'
  put_stands s κ κ' least most least' most' j x S h here other low high =
      all_stand (set s j x) κ' least' most' (length-set s j x ∙ S.size)
      (standing_cases s j x (omega (arith, S.size)) (λ i y. i < J.jobs → JobStands J κ' least' most' i y) (λ q. here)
      (λ i d q. other i d (standing_at s i) (job_stands s κ least most S i q)))
      low high

-- ---- weights and limits that stay

weight_at_lem : (J : JobSet) (κ : Control) (i k : ℕ) (b : Bool) → κ.segment i ≡ k → κ.begun i ≡ b → weight_at J i k b ≡ weight J κ i
unfolding weight
weight_at_lem J κ i k b e f = rw (e, f)

same_weight : (J : JobSet) (κ κ' : Control) (i : ℕ) → κ'.segment i ≡ κ.segment i → κ'.begun i ≡ κ.begun i → weight J κ' i ≡ weight J κ i
unfolding weight
same_weight J κ κ' i e f = rw (e, f)

-- a limit changed at one place is not changed elsewhere
elsewhere : (f : ℕ → ℕ → ℕ) (j k x i m : ℕ) → (i ≡ j → m ≡ k → ⊥) → put2 f j k x i m ≡ f i m
elsewhere f j k x i m d = put2_cases (λ v. v ≡ f i m) f j k x i m (λ p q. absurd (d p q)) (λ _. refl)

-- what a job has keeps standing where nothing is said anew of it
stays : (J : JobSet) (κ κ' : Control) (least most least' most' : ℕ → ℕ → ℕ) (i : ℕ) (x : Standing)
    → κ'.segment i ≡ κ.segment i → κ'.begun i ≡ κ.begun i
    → least' i (κ.segment i) ≡ least i (κ.segment i) → most' i (κ.segment i) ≡ most i (κ.segment i)
    → JobStands J κ least most i x → JobStands J κ' least' most' i x
stays J κ κ' least most least' most' i x e f l m S =
    let w : weight J κ' i ≡ weight J κ i = same_weight J κ κ' i e f in
    record {
      key = S.key ∙ ap (λ v. key_of v i) (sym w);
      segment = S.segment ∙ sym e;
      low = S.low ∙ sym (ap (least' i) e ∙ l);
      high = S.high ∙ sym (ap (most' i) e ∙ m);
      small = S.small;
    }

-- the time of a segment is small, also where there is no such segment
no_segment : (w : Jobs) (i k : ℕ) → (set_of w).segments i ≤ k → (set_of w).longest i k ≡ 0
unfolding set_of segment_at
no_segment w i k h = rw (le-ltb k _ h)

pub longest_small : (w : Jobs) → Loaded w → (i k : ℕ) → i < (set_of w).jobs → (set_of w).longest i k ≤ 1000000
longest_small w L i k h = split k ((set_of w).segments i) (λ q. L.small_times i k h q) (λ q. omega (arith, no_segment w i k q))

-- ---- the moves

module _ (w : Jobs) (s : List Standing) (L : Loaded w) (κ : Control) (least most : ℕ → ℕ → ℕ) (S : Stands (set_of w) s κ least most) (j : ℕ) (h : j < (set_of w).jobs) where
  abbrev J : JobSet
  J = set_of w

  few : j < 32
  few = omega (arith, L.few_jobs)

  -- job j is dispatched
  pub dispatch_stands : Stands J (set s j (resumed_as J j (standing_at s j))) (mark κ j) least most
  unfolding mark
  dispatch_stands =
      let T = job_stands J s κ least most S j h in
      put_stands J s κ (mark κ j) least most least most j _ S few
      (record {
        key = ap (λ v. key_of v j) (weight_at_lem J (mark κ j) j _ true (sym T.segment) (put_same κ.begun j true));
        segment = T.segment;
        low = T.low;
        high = T.high;
        small = T.small;
      })
      (λ i d x U. stays J κ (mark κ j) least most least most i x refl (put_other κ.begun j true i d) refl refl U)
      S.low_later
      S.high_later

  -- job j is cut, with x to y ticks left
  cut_later : (limit own : ℕ → ℕ → ℕ) (x : ℕ) → Later J κ limit own → Later J κ (put2 limit j (κ.segment j) x) own
  cut_later limit own x later i m q z =
      elsewhere limit j (κ.segment j) x i m (λ a b. omega (arith, ap κ.segment a)) ∙ later i m q z

  pub cut_stands : (x y : ℕ) → y ≤ 1000000
      → Stands J (set s j (cut_as (standing_at s j) x y)) κ (put2 least j (κ.segment j) x) (put2 most j (κ.segment j) y)
  cut_stands x y q =
      let T = job_stands J s κ least most S j h in
      put_stands J s κ κ least most _ _ j (cut_as (standing_at s j) x y) S few
      (record {
        key = T.key;
        segment = T.segment;
        low = sym (put2_same least j (κ.segment j) x);
        high = sym (put2_same most j (κ.segment j) y);
        small = q;
      })
      (λ i d z U. stays J κ κ least most _ _ i z refl refl
      (elsewhere least j (κ.segment j) x i (κ.segment i) (λ a b. d a)) (elsewhere most j (κ.segment j) y i (κ.segment i) (λ a b. d a)) U)
      (cut_later least J.shortest x S.low_later)
      (cut_later most J.longest y S.high_later)

  -- job j leaves its segment k
  module _ (k : ℕ) (e : k ≡ κ.segment j) where
    left_segment : (leave κ j).segment j ≡ k + 1
    unfolding leave
    left_segment = put_same κ.segment j (suc (κ.segment j)) ∙ omega arith

    left_other : (i : ℕ) → i ≢ j → (leave κ j).segment i ≡ κ.segment i
    unfolding leave
    left_other i d = put_other κ.segment j (suc (κ.segment j)) i d

    -- no job goes back
    left_more : (i : ℕ) → κ.segment i ≤ (leave κ j).segment i
    left_more i = elim (ℕ_discrete i j) [
      | yes q ↦ omega (arith, left_segment, ap κ.segment q, ap (leave κ j).segment q)
      | no q ↦ omega (arith, left_other i q)
    ]

    left_limit : (limit own : ℕ → ℕ → ℕ) → Later J κ limit own → own j (k + 1) ≡ put2 limit j (κ.segment j) 0 j ((leave κ j).segment j)
    left_limit limit own later =
        rw left_segment (sym (elsewhere limit j (κ.segment j) 0 j (k + 1) (λ p q. omega arith) ∙ later j (k + 1) h (omega arith)))

    left_later : (limit own : ℕ → ℕ → ℕ) → Later J κ limit own → Later J (leave κ j) (put2 limit j (κ.segment j) 0) own
    left_later limit own later i m q z =
        let z' : κ.segment i < m = omega (arith, left_more i) in
        elsewhere limit j (κ.segment j) 0 i m (λ a b. omega (arith, ap κ.segment a)) ∙ later i m q z'

    pub leave_stands : κ.begun j ≡ true
        → Stands J (set s j (begun_at J j (k + 1))) (leave κ j) (put2 least j (κ.segment j) 0) (put2 most j (κ.segment j) 0)
    leave_stands b = put_stands J s κ (leave κ j) least most _ _ j (begun_at J j (k + 1)) S few
        (record {
          key = ap (λ v. key_of v j) (weight_at_lem J (leave κ j) j (k + 1) true left_segment (unfold leave in b));
          segment = sym left_segment;
          low = left_limit least J.shortest S.low_later;
          high = left_limit most J.longest S.high_later;
          small = longest_small w L j (k + 1) h;
        })
        (λ i d x T. stays J κ (leave κ j) least most _ _ i x (left_other i d) (unfold leave in refl)
        (elsewhere least j (κ.segment j) 0 i (κ.segment i) (λ a b. d a)) (elsewhere most j (κ.segment j) 0 i (κ.segment i) (λ a b. d a)) T)
        (left_later least J.shortest S.low_later)
        (left_later most J.longest S.high_later)
