-- Steps 2 to 4 of a tick on the state that the code holds: jobs are released, one is dispatched, it runs for one tick.
use Rattle.kernel.specs.declared.jobs.Jobs.{Jobs}
use Rattle.std.specs.Prelude.{◌≡◌, ◌≢◌, true, false, get_or, set, ltb, leb}
use Rattle.std.proofs.Math.Path.{refl, sym, ap, ap₂}
use Rattle.std.proofs.Common.{◌∙◌, get_or-set_same, lt-ltb, le-leb, ltb-true, leb-true}
use Prim.Native.Nat.{ℕ, zero, suc, ◌+◌, ◌-◌, ◌≤◌, ◌<◌}
use native.Mathlib.Omega.{arith}
use Rattle.std.proofs.Math.Decide.{ℕ_discrete}
use Rattle.std.proofs.Math.ListN.{length, length-set}
use Rattle.std.proofs.Math.Seq.{get_or-set_other}
use Rattle.kernel.specs.Rules.{JobSet, Progress, Run, one_tick, best}
use Rattle.kernel.specs.Jobs.{largest}
use Rattle.kernel.specs.Held.{set_of, Loaded}
use Rattle.kernel.specs.Code.{State, weight_at, no_standing, segment_in, rest_in, release_step, dispatch_step, tick_step, releases, released_after, Released}
use Rattle.kernel.specs.Laws.Tests.{split, if-lt, if-ge, both_true}
use Rattle.kernel.specs.Laws.Largest.{largest_past, largest_same}
use Rattle.kernel.specs.Laws.Places.{put_same, put_other}
use Rattle.kernel.specs.Laws.Pick.{heaviest, rank, rank_eq, pick}
use Rattle.kernel.specs.Laws.Control.{control_of, weight, released}
use Rattle.kernel.specs.Laws.Choice.{choice}
use Rattle.kernel.specs.Laws.Ticks.{serving}
use Rattle.kernel.specs.Laws.Key.{key_of, job_of, key_none, top_key, top_job, ReleasedBy}
use Rattle.kernel.specs.Laws.Shows.{Shows, had_begun, weight_begun, weight_fresh, weight_same}
use Rattle.kernel.specs.declared.state.Standing.{Standing}

-- ---- 2. jobs are released

module _ (w : Jobs) (L : Loaded w) (time : ℕ → ℕ → ℕ) (tick : ℕ) where
  abbrev J : JobSet
  J = set_of w

  -- the next job in table order
  shows_release : (s : State) (r : Run) → Shows J time s r → s.released < J.jobs → Shows J time (release_step w s) r
  unfolding release_step
  shows_release s r S h =
      let m : ℕ = s.released in
      let v : ℕ = key_of (weight_at J m 0 false) m in
      let inside : m < length s.key = omega (arith, S.keys, L.few_jobs) in
      let new : v ≡ key_of (weight J (control_of r.progress) m) m
      = ap (λ (x : ℕ). key_of x m) (sym (weight_fresh J r.progress m (S.idle m (omega arith) h).0 (S.idle m (omega arith) h).1)) in
      record {
        jobs = S.jobs;
        keys = simp length-set S.keys;
        segment = S.segment;
        rest = S.rest;
        some = S.some;
        key = λ i q. split i m
            (λ (l : i < m). get_or-set_other s.key m i v 0 (omega arith) ∙ S.key i l)
            (λ (l : m ≤ i). let e : i ≡ m = omega arith in rw e (get_or-set_same s.key m v 0 inside ∙ new));
        no_key = λ i q. get_or-set_other s.key m i v 0 (omega arith) ∙ S.no_key i (omega arith);
        released = omega arith;
        idle = λ i q l. S.idle i (omega arith) l;
        running = S.running;
        inside = S.inside;
        due = S.due;
        left = S.left;
        on = λ q. (omega (arith, (S.on q).0), (S.on q).1, (S.on q).2);
        mid = S.mid;
      }

  step_count : (s : State) → (release_step w s).released ≡ s.released + 1
  unfolding release_step
  step_count s = refl

  release_is : (s : State) → releases J tick s ≡ true → (s.released < J.jobs) × (J.release s.released ≤ tick)
  release_is s h =
      let (a, b) = both_true (ltb s.released J.jobs) (leb (J.release s.released) tick) h in
      (ltb-true s.released J.jobs a, leb-true (J.release s.released) tick b)

  -- those that were released before are out, and each that is released now
  abbrev OutBy : State → Type 0
  OutBy s = (i : ℕ) → i < s.released → J.release i ≤ tick

  releasing : (n : ℕ) (s : State) (r : Run) → Shows J time s r → OutBy s → ((i : ℕ) → i < n → releases J tick (released_after w i s) ≡ true)
      → Shows J time (released_after w n s) r × OutBy (released_after w n s)
  unfolding released_after
  releasing zero s r S O h = (S, O)
  releasing (suc n) s r S O h =
      let q : State = released_after w n s in
      let (T, P) = releasing n s r S O (λ i l. h i (omega arith)) in
      let (a, b) = release_is q (h n (omega arith)) in (
        shows_release q r T a,
        λ i l. split i q.released (λ (x : i < q.released). P i x)
            (λ (x : q.released ≤ i). let e : i ≡ q.released = omega (arith, step_count q) in omega (arith, ap J.release e)),
      )

  -- all jobs of the tick are released
  pub shows_released : (s q : State) (r : Run) → Shows J time s r → OutBy s → Released w tick s q
      → Shows J time q r × ReleasedBy J.jobs J.release tick q.released
  shows_released s q r S O R =
      let (T, P) = releasing R.some.steps s r S O R.some.all in
      let T' : Shows J time q r = rw R.some.after T in (
        T',
        record {
          inside = T'.released;
          out = rw R.some.after P;
          later = λ i a b. split tick (J.release q.released)
              (λ (l : tick < J.release q.released). omega (arith, L.lawful.sorted q.released i a b))
              (λ (l : J.release q.released ≤ tick).
              let h : q.released < J.jobs = omega arith in
              let e : releases J tick q ≡ true = rw (lt-ltb q.released J.jobs h, le-leb (J.release q.released) tick l) in
              absurd (let z : ◌≡◌ {A = ℕ} 0 1 = cc R.done in omega arith));
        },
      )

-- ---- 3. one is dispatched

module _ (w : Jobs) (L : Loaded w) (time : ℕ → ℕ → ℕ) (tick : ℕ) (s : State) (r : Run) (S : Shows (set_of w) time s r)
    (R : ReleasedBy (set_of w).jobs (set_of w).release tick s.released) where
  abbrev p : Progress
  p = r.progress

  -- the weight that counts at the tick
  abbrev v : ℕ → ℕ
  v = rank (set_of w).jobs (set_of w).release (weight (set_of w) (control_of p)) tick

  key_is : (i : ℕ) → i < (set_of w).jobs → get_or s.key i 0 ≡ key_of (v i) i
  key_is i h = split i s.released
      (λ (q : i < s.released). S.key i q ∙ ap (λ (x : ℕ). key_of x i) (sym (rank_eq _ _ _ tick i (R.out i q))))
      (λ (q : s.released ≤ i). S.no_key i q ∙ sym (key_none (v i) i (unfold rank in if-lt tick ((set_of w).release i) 0 _ (R.later i q h))))

  none_counts : v (set_of w).jobs ≡ 0
  unfolding rank
  none_counts =
      let n : ℕ = (set_of w).jobs in
      let z : weight (set_of w) (control_of p) n ≡ 0 = (released (set_of w) L.lawful (control_of p)).v_n in
      split tick ((set_of w).release n) (λ h. if-lt tick ((set_of w).release n) 0 _ h) (λ h. if-ge tick ((set_of w).release n) 0 _ h ∙ z)

  -- the largest key is that of the largest weight
  keyed : largest (λ i. get_or s.key i 0) 32 ≡ largest (λ i. key_of (v i) i) (set_of w).jobs
  keyed =
      let n : ℕ = (set_of w).jobs in
      let e : 32 ≡ (32 - n) + n = omega (arith, L.few_jobs) in
      ap (largest (λ i. get_or s.key i 0)) e
      ∙ largest_past (λ i. get_or s.key i 0) n (32 - n) (λ i h. S.no_key i (omega (arith, S.released)))
      ∙ largest_same (λ i. get_or s.key i 0) (λ i. key_of (v i) i) n key_is

  -- where it is that of no job, there is no key
  pub none_keyed : job_of (set_of w).jobs (largest (λ i. get_or s.key i 0) 32) ≡ (set_of w).jobs → largest (λ i. get_or s.key i 0) 32 ≡ 0
  none_keyed h =
      let n : ℕ = (set_of w).jobs in
      let d : heaviest v n n ≡ n = sym (ap (job_of n) keyed ∙ top_job v n L.few_jobs none_counts n (omega arith)) ∙ h in
      keyed ∙ top_key v n L.few_jobs none_counts n (omega arith) ∙ ap (λ (i : ℕ). key_of (v i) i) d ∙ key_none (v n) n none_counts

  -- the job of the largest key is the one that the rules dispatch
  pub dispatches : job_of (set_of w).jobs (largest (λ i. get_or s.key i 0) 32) ≡ best (set_of w) p tick (set_of w).jobs
  dispatches =
      let n : ℕ = (set_of w).jobs in
      ap (job_of n) keyed
      ∙ top_job v n L.few_jobs none_counts n (omega arith)
      ∙ sym (choice (set_of w) L.lawful p tick ∙ unfold pick in refl)

-- ---- 4. it runs for one tick

module _ (J : JobSet) (time : ℕ → ℕ → ℕ) (s : State) (r : Run) (S : Shows J time s r) (d : ℕ) (h : d < J.jobs) (out : d < s.released)
    (live : r.progress.segment d < J.segments d) where
  abbrev after : Progress
  after = one_tick r.progress d

  had_here : after.had d ≡ r.progress.had d + 1
  had_here = put_same r.progress.had d (r.progress.had d + 1)

  had_other : (i : ℕ) → i ≢ d → after.had i ≡ r.progress.had i
  had_other i n = put_other r.progress.had d (r.progress.had d + 1) i n

  -- of d the key of a begun job, of the others what it was
  weight_other : (i : ℕ) → i ≢ d → weight J (control_of after) i ≡ weight J (control_of r.progress) i
  weight_other i n = weight_same J after r.progress i refl (had_other i n)

  weight_here : weight J (control_of after) d ≡ weight_at J d (r.progress.segment d) true
  weight_here = weight_begun J after d (had_begun after d (omega (arith, had_here)))

  no_idle : (i : ℕ) → s.released ≤ i → i < J.jobs → (r.progress.segment i ≡ 0) × (after.had i ≡ 0)
  no_idle i q l = ((S.idle i q l).0, had_other i (omega arith) ∙ (S.idle i q l).1)

  -- the running job goes on
  pub shows_on : d ≡ r.running → 1 ≤ s.left → Shows J time (tick_step s) (serving after d)
  unfolding tick_step
  shows_on e some =
      let x : d < J.jobs → s.left + r.progress.had d ≡ time d (r.progress.segment d) = rw e S.left in
      record {
        jobs = S.jobs;
        keys = S.keys;
        segment = S.segment;
        rest = λ i q n l. omega (arith, had_other i n, S.rest i q (λ z. n (z ∙ sym e)) l);
        some = λ i q n l. omega (arith, had_other i n, S.some i q (λ z. n (z ∙ sym e)) l);
        key = λ i q. S.key i q ∙ ap (λ (v : ℕ). key_of v i) (elim (ℕ_discrete i d) [
          | yes z ↦ rw z (weight_begun J r.progress d (had_begun r.progress d (rw e (S.on (rw e at h)).2)) ∙ sym weight_here)
          | no z ↦ sym (weight_other i z)
        ]);
        no_key = S.no_key;
        released = S.released;
        idle = no_idle;
        running = S.running ∙ sym e;
        inside = omega arith;
        due = S.due ∙ S.mid (rw e at h);
        left = λ q. omega (arith, x h, had_here);
        on = λ q. (out, live, omega (arith, had_here));
        mid = λ q. refl;
      }

  -- another job is dispatched, and what is left of the running one is kept
  module _ (n : d ≢ r.running) (some : r.running < J.jobs → 1 ≤ s.left) (few : J.jobs ≤ 32) (w : Jobs) (same : J ≡ set_of w) where
    kept : ℕ → Standing
    kept i = get_or (set s.job s.running (record { segment = segment_in s s.running; rest = s.left })) i no_standing

    kept_here : r.running < J.jobs → kept r.running ≡ record { segment = segment_in s r.running; rest = s.left }
    unfolding kept
    kept_here q = rw S.running (get_or-set_same s.job r.running (record { segment = segment_in s r.running; rest = s.left }) no_standing (omega (arith, S.jobs)))

    kept_other : (i : ℕ) → i ≢ r.running → kept i ≡ get_or s.job i no_standing
    unfolding kept
    kept_other i q = rw S.running (get_or-set_other s.job r.running i (record { segment = segment_in s r.running; rest = s.left }) no_standing q)

    rest_of_d : (kept d).rest + r.progress.had d ≡ time d (r.progress.segment d)
    rest_of_d = omega (arith, ap (λ (x : Standing). x.rest) (kept_other d n), S.rest d h n live)

    -- each job stays in its segment
    kept_segment : (i : ℕ) → i < J.jobs → (kept i).segment ≡ segment_in s i
    kept_segment i q = elim (ℕ_discrete i r.running) [
      | yes e ↦ rw e (ap (λ (x : Standing). x.segment) (kept_here (rw e at q)))
      | no e ↦ ap (λ (x : Standing). x.segment) (kept_other i e)
    ]

    -- what holds of each other job, whether it ran before or not
    each : (P : ℕ → ℕ → Type 0) → (r.running < J.jobs → P r.running s.left) → ((i : ℕ) → i < J.jobs → i ≢ r.running → P i (rest_in s i))
        → (i : ℕ) → i < J.jobs → P i (kept i).rest
    each P a b i q = elim (ℕ_discrete i r.running) [
      | yes e ↦ rw (e, kept_here (rw e at q)) (a (rw e at q))
      | no e ↦ rw (kept_other i e) (b i q e)
    ]

    pub shows_switch : Shows J time (tick_step (dispatch_step w d s)) (serving after d)
    unfolding tick_step dispatch_step kept
    shows_switch =
        let v : ℕ = key_of (weight_at (set_of w) d (segment_in s d) true) d in
        let in-key : d < length s.key = omega (arith, S.keys) in
        let new : v ≡ key_of (weight J (control_of after) d) d
        = ap₂ (λ (K : JobSet) (k : ℕ). key_of (weight_at K d k true) d) (sym same) (S.segment d h) ∙ ap (λ (x : ℕ). key_of x d) (sym weight_here) in
        record {
          jobs = simp length-set S.jobs;
          keys = simp length-set S.keys;
          segment = λ i q. kept_segment i q ∙ S.segment i q;
          rest = λ i q z l. each (λ i x. i ≢ d → r.progress.segment i < J.segments i → x + after.had i ≡ time i (r.progress.segment i))
              (λ g y l. omega (arith, had_other r.running y, S.left g))
              (λ i q e y l. omega (arith, had_other i y, S.rest i q e l))
              i q z l;
          some = λ i q z l. each (λ i x. i ≢ d → r.progress.segment i < J.segments i → after.had i < time i (r.progress.segment i))
              (λ g y l. omega (arith, had_other r.running y, S.left g, some g))
              (λ i q e y l. omega (arith, had_other i y, S.some i q e l))
              i q z l;
          key = λ i q. elim (ℕ_discrete i d) [
            | yes z ↦ rw z (get_or-set_same s.key d v 0 in-key ∙ new)
            | no z ↦ get_or-set_other s.key d i v 0 z ∙ S.key i q ∙ ap (λ (x : ℕ). key_of x i) (sym (weight_other i z))
          ];
          no_key = λ i q. get_or-set_other s.key d i v 0 (omega arith) ∙ S.no_key i q;
          released = S.released;
          idle = no_idle;
          running = refl;
          inside = omega arith;
          due = refl;
          left = λ q. omega (arith, rest_of_d, had_here, S.some d h n live);
          on = λ q. (out, live, omega (arith, had_here));
          mid = λ q. refl;
        }
