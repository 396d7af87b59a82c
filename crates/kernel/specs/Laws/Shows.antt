-- The state that the code holds shows where a run of the rules stands, and each step of the code moves it as the rules do.
use Rattle.kernel.specs.declared.jobs.Jobs.{Jobs}
use Rattle.std.specs.Prelude.{◌≡◌, refl, ◌≢◌, Bool, true, false, ◌||◌, List, ℕ, ◌+◌, ◌≤◌, ◌<◌, length, set, ltb}
use Rattle.std.proofs.Math.Path.{sym, ap}
use Rattle.std.proofs.Common.{◌∙◌, arith, get_or-set_same, get_or-set_other, lt-ltb, le-ltb, eq-eqb, ne_eqb}
use Rattle.std.proofs.Math.Decide.{ℕ_discrete}
use Rattle.std.proofs.Math.ListN.{get_or, length-set}
use Rattle.kernel.specs.Rules.{JobSet, Progress, begun, put, cutting, leaving, Run, next_segment, fresh, leave_kind}
use Rattle.kernel.specs.Held.{set_of, Loaded}
use Rattle.kernel.specs.Code.{State, kind_of, due_of, weight_at, time_at, leave_kind_at, no_standing, segment_in, rest_in, Fresh, end_step}
use Rattle.kernel.specs.Laws.Tests.{split}
use Rattle.kernel.specs.Laws.Places.{put_same, put_other}
use Rattle.kernel.specs.Laws.Control.{control_of, weight, Positive}
use Rattle.kernel.specs.Laws.Key.{key_of}
use Rattle.kernel.specs.Laws.Ticks.{after_end}
use Rattle.kernel.specs.declared.state.Standing.{Standing}

-- ---- weights of a progress

or_right : (b : Bool) → (b || true) ≡ true
or_right true = refl
or_right false = refl

-- a job that has a tick has begun
pub had_begun : (p : Progress) (i : ℕ) → 1 ≤ p.had i → begun p i ≡ true
had_begun p i h = rw (lt-ltb 0 (p.had i) h) (or_right (ltb 0 (p.segment i)))

-- and so has one that has left a segment
left_begun : (p : Progress) (i : ℕ) → 1 ≤ p.segment i → begun p i ≡ true
left_begun p i h = rw (lt-ltb 0 (p.segment i) h)

module _ (J : JobSet) (p : Progress) (i : ℕ) where
  pub weight_begun : begun p i ≡ true → weight J (control_of p) i ≡ weight_at J i (p.segment i) true
  unfolding weight
  weight_begun b = rw b

  pub weight_fresh : p.segment i ≡ 0 → p.had i ≡ 0 → weight J (control_of p) i ≡ weight_at J i 0 false
  unfolding weight
  weight_fresh a b = rw (a, b)

-- it depends on the job's own segment and ticks alone
pub weight_same : (J : JobSet) (p q : Progress) (i : ℕ) → p.segment i ≡ q.segment i → p.had i ≡ q.had i → weight J (control_of p) i ≡ weight J (control_of q) i
unfolding weight
weight_same J p q i a b = rw (a, b)

-- ---- an array changed at one place is the function changed there

set_put : (l : List ℕ) (f : ℕ → ℕ) (n j v : ℕ) → ((i : ℕ) → i < n → get_or l i 0 ≡ f i) → j < length l → (i : ℕ) → i < n → get_or (set l j v) i 0 ≡ put f j v i
set_put l f n j v h q i l' = elim (ℕ_discrete i j) [
  | yes e ↦ rw (e, put_same f j v) (get_or-set_same l j v 0 q)
  | no e ↦ get_or-set_other l j i v 0 e ∙ h i l' ∙ sym (put_other f j v i e)
]

-- ---- what the state shows

module _ (J : JobSet) (time : ℕ → ℕ → ℕ) where
  pub record Shows (s : State) (r : Run) : Type 0 where
    pub jobs : length s.job ≡ 32
    pub keys : length s.key ≡ 32
    pub segment : (i : ℕ) → i < J.jobs → segment_in s i ≡ r.progress.segment i
    -- of an unfinished job that does not run, something is left
    pub rest : (i : ℕ) → i < J.jobs → i ≢ r.running → r.progress.segment i < J.segments i → rest_in s i + r.progress.had i ≡ time i (r.progress.segment i)
    pub some : (i : ℕ) → i < J.jobs → i ≢ r.running → r.progress.segment i < J.segments i → r.progress.had i < time i (r.progress.segment i)
    pub key : (i : ℕ) → i < s.released → get_or s.key i 0 ≡ key_of (weight J (control_of r.progress) i) i
    pub no_key : (i : ℕ) → s.released ≤ i → get_or s.key i 0 ≡ 0
    pub released : s.released ≤ J.jobs
    -- a job that is not released has not begun
    pub idle : (i : ℕ) → s.released ≤ i → i < J.jobs → (r.progress.segment i ≡ 0) × (r.progress.had i ≡ 0)
    pub running : s.running ≡ r.running
    pub inside : r.running ≤ J.jobs
    pub due : due_of s.due ≡ r.due
    -- the running job is released and unfinished, and has had a tick
    pub left : r.running < J.jobs → s.left + r.progress.had r.running ≡ time r.running (r.progress.segment r.running)
    pub on : r.running < J.jobs → (r.running < s.released) × (r.progress.segment r.running < J.segments r.running) × (1 ≤ r.progress.had r.running)
    pub mid : r.running < J.jobs → r.due ≡ cutting

module _ (w : Jobs) (times : List ℕ) (L : Loaded w) (time : ℕ → ℕ → ℕ) (positive : Positive (set_of w) time)
    (same : (i k : ℕ) → i < (set_of w).jobs → time_at w times i k ≡ time i k) where
  abbrev J : JobSet
  J = set_of w

  -- ---- at the start

  pub shows_fresh : (s : State) → Fresh w times s → Shows J time s (fresh J)
  shows_fresh s F = record {
    jobs = F.jobs;
    keys = F.keys;
    segment = λ i h. F.segment i;
    rest = λ i h n l. omega (arith, F.rest i (omega (arith, L.few_jobs)), same i 0 h);
    some = λ i h n l. positive i 0 h l;
    key = λ i h. absurd (omega (arith, F.released));
    no_key = λ i h. F.key i;
    released = omega (arith, F.released);
    idle = λ i h l. (refl, refl);
    running = F.running;
    inside = omega arith;
    due = ap due_of F.due;
    left = λ h. absurd (omega arith);
    on = λ h. absurd (omega arith);
    mid = λ h. absurd (omega arith);
  }

  -- ---- 1. the running segment ends

  module _ (tick : ℕ) (s : State) (r : Run) (S : Shows J time s r) (h : r.running < J.jobs) where
    abbrev j : ℕ
    j = r.running

    abbrev p : Progress
    p = r.progress

    abbrev next : Progress
    next = next_segment p j

    abbrev k : ℕ
    k = segment_in s s.running + 1

    small : j < 32
    small = omega (arith, L.few_jobs)

    next_k : k ≡ p.segment j + 1
    next_k = ap (λ (i : ℕ). segment_in s i + 1) S.running ∙ omega (arith, S.segment j h)

    -- elsewhere nothing changes
    other : (i : ℕ) → i ≢ j → (next.segment i ≡ p.segment i) × (next.had i ≡ p.had i)
    other i n = (put_other p.segment j (p.segment j + 1) i n, put_other p.had j 0 i n)

    here_segment : next.segment j ≡ p.segment j + 1
    here_segment = put_same p.segment j (p.segment j + 1)

    here_had : next.had j ≡ 0
    here_had = put_same p.had j 0

    end_kind : kind_of (leave_kind_at J s.running k) ≡ leave_kind J p j
    end_kind = rw (next_k, S.running) (split (p.segment j + 1) (J.segments j)
        (λ (q : p.segment j + 1 < J.segments j). rw (lt-ltb _ _ q, ne_eqb (p.segment j + 1) (J.segments j) (omega arith)))
        (λ (q : J.segments j ≤ p.segment j + 1). rw (le-ltb _ _ q, eq-eqb (p.segment j + 1) (J.segments j) (omega (arith, (S.on h).1)))))

    end_key : key_of (weight_at J s.running k true) s.running ≡ key_of (weight J (control_of next) j) j
    end_key = rw (next_k, S.running) (ap (λ (v : ℕ). key_of v j) (sym (weight_begun J next j (left_begun next j (omega (arith, here_segment)))
        ∙ ap (λ (k : ℕ). weight_at J j k true) here_segment)))

    end_time : time_at w times s.running k ≡ time j (p.segment j + 1)
    end_time = rw (next_k, S.running) (same j (p.segment j + 1) h)

    -- what is said of each job but j by the old state, and of j by the new numbers
    at_j : (P : ℕ → Type 0) → P j → ((i : ℕ) → i ≢ j → P i) → (i : ℕ) → P i
    at_j P a b i = elim (ℕ_discrete i j) [ yes e ↦ rw e a | no e ↦ b i e ]

    stored : {X : Type 0} (l : List X) (v z : X) (i : ℕ) → i ≢ j → get_or (set l s.running v) i z ≡ get_or l i z
    stored l v z i n = rw S.running (get_or-set_other l j i v z n)

    stored_here : {X : Type 0} (l : List X) (v z : X) → length l ≡ 32 → get_or (set l s.running v) j z ≡ v
    stored_here l v z e = rw S.running (get_or-set_same l j v z (omega (arith, small)))

    -- where the job stands
    abbrev v : Standing
    v = record { segment = k; rest = time_at w times s.running k }

    abbrev after : ℕ → Standing
    after i = get_or (set s.job s.running v) i no_standing

    after_here : after j ≡ v
    after_here = stored_here s.job v no_standing S.jobs

    after_other : (i : ℕ) → i ≢ j → after i ≡ get_or s.job i no_standing
    after_other i n = stored s.job v no_standing i n

    pub shows_end : Shows J time (end_step w times tick s) (after_end J tick r)
    unfolding end_step
    shows_end = record {
      jobs = simp length-set S.jobs;
      keys = simp length-set S.keys;
      segment = at_j (λ i. i < J.jobs → (after i).segment ≡ next.segment i)
          (λ q. ap (λ (x : Standing). x.segment) after_here ∙ next_k ∙ sym here_segment)
          (λ i n q. ap (λ (x : Standing). x.segment) (after_other i n) ∙ S.segment i q ∙ sym (other i n).0);
      rest = λ i q n. at_j (λ i. i < J.jobs → next.segment i < J.segments i → (after i).rest + next.had i ≡ time i (next.segment i))
          (λ q l. omega (arith, ap (λ (x : Standing). x.rest) after_here, end_time, here_had, ap (time j) here_segment))
          (λ i n q l. omega (arith, ap (λ (x : Standing). x.rest) (after_other i n), (other i n).1, ap (time i) (other i n).0, S.rest i q n (omega (arith, (other i n).0)))) i q;
      some = λ i q n. at_j (λ i. i < J.jobs → next.segment i < J.segments i → next.had i < time i (next.segment i))
          (λ q l. omega (arith, here_had, positive j (next.segment j) q l))
          (λ i n q l. omega (arith, (other i n).1, ap (time i) (other i n).0, S.some i q n (omega (arith, (other i n).0)))) i q;
      key = at_j (λ i. i < s.released → get_or (set s.key s.running (key_of (weight_at J s.running k true) s.running)) i 0 ≡ key_of (weight J (control_of next) i) i)
          (λ q. stored_here s.key (key_of (weight_at J s.running k true) s.running) 0 S.keys ∙ end_key)
          (λ i n q. stored s.key (key_of (weight_at J s.running k true) s.running) 0 i n ∙ S.key i q ∙ ap (λ (v : ℕ). key_of v i) (weight_same J p next i (sym (other i n).0) (sym (other i n).1)));
      no_key = λ i q. stored s.key (key_of (weight_at J s.running k true) s.running) 0 i (omega (arith, (S.on h).0)) ∙ S.no_key i q;
      released = S.released;
      idle = λ i q l. let n : i ≢ j = omega (arith, (S.on h).0) in ((other i n).0 ∙ (S.idle i q l).0, (other i n).1 ∙ (S.idle i q l).1);
      running = refl;
      inside = omega arith;
      due = ap (λ (x : _). leaving x tick) end_kind;
      left = λ q. absurd (omega arith);
      on = λ q. absurd (omega arith);
      mid = λ q. absurd (omega arith);
    }
