-- A run that ends in its frame: its last switch names no job, and every switch before that names one.
use mathlib.Core.Logic.{∥∥₁_elim}
use Rattle.std.proofs.Math.Bool.{Bool-set}
use Prim.Native.Nat.{ℕ, zero, suc, ◌<◌, ◌≤◌}
use native.Mathlib.Omega.{arith}
use Rattle.std.specs.Prelude.{◌≡◌, false, ◌&&◌, ltb, eqb}
use Rattle.std.proofs.Math.Path.{refl, ap}
use Rattle.std.proofs.Common.{sym, ◌∙◌}
use Rattle.std.proofs.Math.Bool.{true, and-false}
use Rattle.std.proofs.lemmas.Bool.{false≢true}
use mathlib.Core.List.{List, [], ◌∷◌, ◌++◌, map}
use borrow.Author.Tests.{ltb-true, lt-leb}
use Rattle.kernel.specs.Rules.{JobSet, FIRST, CUT, Progress, Switch, Due, first, cutting, leaving, Run, finished, dispatched, all_finished, end_segment, had_its_time, over, fresh, reported, run_tick, switch_at, last_switch, switches, ends, is_in_frame, Within}
use Rattle.kernel.specs.Laws.Tests.{split, by_cond}
use Rattle.kernel.specs.Laws.Control.{Lawful}
use Rattle.orders.specs.Orders.{Label, label_of, order_of}

-- no run ends later than the frame length: refusal 5 does not apply
abbrev pub EveryRunEnds : JobSet → Type 0
EveryRunEnds J = (time : ℕ → ℕ → ℕ) → Within J time → is_in_frame J time ≡ true

-- each but the last names a job below n; the last has n, which stands for none
abbrev pub Ended : ℕ → List Label → Type 0
Ended n [] = ⊥
Ended n (x ∷ []) = x.job ≡ n
Ended n (x ∷ y ∷ xs) = (x.job < n) × Ended n (y ∷ xs)

-- an order that has ended goes no further
pub no_further : (n : ℕ) (xs : List Label) (l : Label) (ys : List Label) → Ended n xs → Ended n (xs ++ l ∷ ys) → ⊥
no_further n [] l ys e g = e
no_further n (x ∷ []) l ys e g = omega (arith, g.0)
no_further n (x ∷ y ∷ xs) l ys e g = no_further n (y ∷ xs) l ys e.1 g.1

ended_cons : (n : ℕ) (x : Label) (xs : List Label) → x.job < n → Ended n xs → Ended n (x ∷ xs)
ended_cons n x [] h e = absurd e
ended_cons n x (y ∷ ys) h e = (h, e)

module _ (J : JobSet) where
  -- with these in front it still ends so
  abbrev Leads : List Switch → Type 0
  Leads L = (rest : List Switch) → Ended J.jobs (map label_of rest) → Ended J.jobs (map label_of (L ++ rest))

  reported_leads : (tick was d k : ℕ) → d < J.jobs → (due : Due) → Leads (reported tick was d k due)
  unfolding reported
  reported_leads tick was d k h first rest e = ended_cons J.jobs (record { kind = FIRST; job = d; segment = k }) (map label_of rest) h e
  reported_leads tick was d k h cutting rest e =
      by_cond (λ (L : List Switch). Ended J.jobs (map label_of (L ++ rest))) (eqb d was) _ _ (λ _. e)
      (λ _. ended_cons J.jobs (record { kind = CUT; job = d; segment = k }) (map label_of rest) h e)
  reported_leads tick was d k h (leaving kind at) rest e = ended_cons J.jobs (record { kind = kind; job = d; segment = k }) (map label_of rest) h e

  switch_leads : (tick : ℕ) (r : Run) → Leads (switch_at J tick r)
  unfolding switch_at
  switch_leads tick r =
      let d = dispatched J tick r in
      by_cond Leads (ltb d J.jobs) _ _ (λ t. reported_leads tick r.running d (r.progress.segment d) (ltb-true d J.jobs t) r.due) (λ _ rest e. e)

  -- ticks leave finished what is finished
  same_finished : (p : Progress) (had : ℕ → ℕ) (k : ℕ) → all_finished J (record { segment = p.segment; had = had }) k ≡ all_finished J p k
  unfolding all_finished
  same_finished p had zero = refl
  same_finished p had (suc k) = ap (λ b. finished J p k && b) (same_finished p had k)

  tick_over : (tick : ℕ) (r : Run) → over J (run_tick J tick r) ≡ over J r
  unfolding run_tick
  tick_over tick r = by_cond (λ (x : Run). over J x ≡ over J r) (ltb (dispatched J tick r) J.jobs) _ _
      (λ _. same_finished r.progress _ J.jobs) (λ _. refl)

  unfinished : (p : Progress) (k i : ℕ) → i < k → p.segment i < J.segments i → all_finished J p k ≡ false
  unfolding all_finished
  unfinished p zero i h g = absurd (omega arith)
  unfinished p (suc k) i h g = split i k
      (λ (q : i < k). rw (unfinished p k i q g) (and-false (finished J p k)))
      (λ (q : k ≤ i). let e : k ≡ i = omega arith in rw (e, lt-leb (J.segments i) (p.segment i) g))

  module _ (time : ℕ → ℕ → ℕ) where
    -- what makes a run over is the end of a segment
    last_ended : (tick : ℕ) (r : Run) → over J r ≡ false → over J (end_segment J time tick r) ≡ true
        → Ended J.jobs (map label_of (last_switch J (end_segment J time tick r).due))
    unfolding end_segment last_switch
    last_ended tick r h = by_cond (λ (e : Run). over J e ≡ true → Ended J.jobs (map label_of (last_switch J e.due))) (had_its_time J time r) _ _
        (λ _ _. refl) (λ _ o. absurd (false≢true (sym h ∙ o)))

    ends_ended : (n tick : ℕ) (r : Run) → over J r ≡ false → ends J time n tick r ≡ true → Ended J.jobs (map label_of (switches J time n tick r))
    unfolding switches ends
    ends_ended zero tick r h t = absurd (false≢true t)
    ends_ended (suc n) tick r h t =
        let e = end_segment J time tick r in
        by_cond (λ (L : List Switch). Ended J.jobs (map label_of L)) (over J e) _ _ (last_ended tick r h)
        (λ o. switch_leads tick e _ (ends_ended n (suc tick) (run_tick J tick e) (tick_over tick e ∙ o) (rw o at t)))

  pub run_ended : Lawful J → (time : ℕ → ℕ → ℕ) → is_in_frame J time ≡ true → Ended J.jobs (order_of J time)
  run_ended L time = ends_ended time _ 0 (fresh J) (∥∥₁_elim L.worker (Bool-set _ _) (λ w. unfinished _ J.jobs w.job w.inside w.some))
