-- From one tick to a later one: the switches between them.
use Rattle.std.specs.Prelude.{◌≡◌, true, false, cond, List, [], ◌++◌, ℕ, zero, suc}
use Rattle.std.proofs.Math.Path.{refl}
use Rattle.std.proofs.Common.{sym, ap, ◌∙◌, append_assoc, arith}
use Rattle.kernel.specs.Rules.{JobSet, Run, Switch, run_tick, switch_at, last_switch, over, end_segment, switches, ends}
use Rattle.kernel.specs.Laws.Ticks.{after_end, end_cases, end_none}

module _ (J : JobSet) (time : ℕ → ℕ → ℕ) where
  -- wherever the run from r on ends, so does that from r' on, and the switches in l come first
  pub record Leads (l : List Switch) (t : ℕ) (r : Run) (t' : ℕ) (r' : Run) : Type 0 where
    pub on : (n : ℕ) → ends J time n t r ≡ true
        → (n' : ℕ) × (ends J time n' t' r' ≡ true) × (switches J time n t r ≡ l ++ switches J time n' t' r')

  -- wherever the run from r on ends, its switches are those in l
  pub record Closes (l : List Switch) (t : ℕ) (r : Run) : Type 0 where
    pub all : (n : ℕ) → ends J time n t r ≡ true → switches J time n t r ≡ l

  pub leads_none : (t : ℕ) (r : Run) → Leads [] t r t r
  leads_none t r = record { on = λ n h. (n, h, refl) }

  pub leads_leads : {l m : List Switch} {t t' t'' : ℕ} {r r' r'' : Run} → Leads l t r t' r' → Leads m t' r' t'' r'' → Leads (l ++ m) t r t'' r''
  leads_leads {l} {m} f g = record {
    on = λ n h.
        let (a, b, c) = f.on n h in
        let (a', b', c') = g.on a b in
        (a', b', c ∙ ap (λ (x : List Switch). l ++ x) c' ∙ sym (append_assoc l m _));
  }

  pub leads_closes : {l m : List Switch} {t t' : ℕ} {r r' : Run} → Leads l t r t' r' → Closes m t' r' → Closes (l ++ m) t r
  leads_closes {l} f g = record { all = λ n h. let (a, b, c) = f.on n h in c ∙ ap (λ (x : List Switch). l ++ x) (g.all a b) }

  -- ---- one tick, where e is the run after the end of a segment

  module _ (t : ℕ) (r e : Run) (q : end_segment J time t r ≡ e) where
    ends_none : ends J time zero t r ≡ false
    unfolding ends
    ends_none = refl

    pub ends_some : (n : ℕ) → ends J time (suc n) t r ≡ cond (over J e) true (ends J time n (suc t) (run_tick J t e))
    ends_some n = rw (← q) (unfold ends in refl)

    pub switches_some : (n : ℕ) → switches J time (suc n) t r
        ≡ cond (over J e) (last_switch J e.due) (switch_at J t e ++ switches J time n (suc t) (run_tick J t e))
    switches_some n = rw (← q) (unfold switches in refl)

    pub leads_tick : over J e ≡ false → Leads (switch_at J t e) t r (suc t) (run_tick J t e)
    leads_tick o = record { on = go }
      where
        go : (n : ℕ) → ends J time n t r ≡ true
            → (n' : ℕ) × (ends J time n' (suc t) (run_tick J t e) ≡ true)
            × (switches J time n t r ≡ switch_at J t e ++ switches J time n' (suc t) (run_tick J t e))
        go zero h = absurd (let z : ◌≡◌ {A = ℕ} 0 1 = cc ends_none in omega arith)
        go (suc n) h = (n, rw (ends_some n, o) at h, rw (switches_some n, o))

    pub closes_tick : over J e ≡ true → Closes (last_switch J e.due) t r
    closes_tick o = record { all = go }
      where
        go : (n : ℕ) → ends J time n t r ≡ true → switches J time n t r ≡ last_switch J e.due
        go zero h = absurd (let z : ◌≡◌ {A = ℕ} 0 1 = cc ends_none in omega arith)
        go (suc n) h = rw (switches_some n, o)

  -- what a tick does first may be done before it
  end_twice : (t : ℕ) (r : Run) → end_segment J time t (end_segment J time t r) ≡ end_segment J time t r
  end_twice t r = end_cases J time t r
      (λ h a e. rw e (end_none J time t (after_end J t r) (omega arith)))
      (λ n e. ap (end_segment J time t) e)

  pub leads_end : (t : ℕ) (r : Run) → Leads [] t r t (end_segment J time t r)
  leads_end t r = record { on = go }
    where
      e : Run
      e = end_segment J time t r

      go : (n : ℕ) → ends J time n t r ≡ true → (n' : ℕ) × (ends J time n' t e ≡ true) × (switches J time n t r ≡ switches J time n' t e)
      go zero h = absurd (let z : ◌≡◌ {A = ℕ} 0 1 = cc (ends_none t r e refl) in omega arith)
      go (suc n) h = (
        suc n,
        ends_some t e e (end_twice t r) n ∙ sym (ends_some t r e refl n) ∙ h,
        switches_some t r e refl n ∙ sym (switches_some t e e (end_twice t r) n),
      )
