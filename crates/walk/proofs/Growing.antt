-- The paths through `grow`: no switch may follow; the running job leaves its segment; or it is cut besides.
use Rattle.std.proofs.Common.{ℕ, ◌+◌, ◌-◌, ◌≤◌, ◌<◌, arith, ◌≡◌, ap, ◌∙◌, [], append-nil, ◌/◌}
use Rattle.kernel.specs.Rules.{JobSet}
use Rattle.kernel.specs.Held.{set_of, Loaded}
use Rattle.kernel.specs.Laws.Tests.{if-ge}
use Rattle.kernel.specs.Laws.Control.{weight}
use Rattle.kernel.specs.Laws.Fall.{alive_seg}
use Rattle.kernel.specs.Laws.Step.{State, present}
use Rattle.orders.specs.Laws.Box.{Box, early, late, latest, leaves, cuts}
use Rattle.orders.specs.Laws.Spans.{cut_law}
use Rattle.orders.specs.Laws.Walk.{hang, grow}
use Rattle.walk.specs.State.{standing_at}
use Rattle.walk.specs.Choice.{OutBy, Aboves}
use Rattle.walk.specs.Descent.{jobs_of, Writes, High, Rep, GrowAsk, Grown, LeaveAsk, Left, CutAsk, CutOff}
use Rattle.walk.proofs.Keeping.{kept_all, kept_on}
use Rattle.walk.specs.Laws.Keyed.{out_by, out_later, weighs}
use Rattle.walk.specs.Laws.Forests.{grow_zero, grow_some}
use Rattle.walk.specs.Laws.Writing.{wrote_none, wrote_append}
use Rattle.walk.specs.Laws.Ticks.{late_small}
use Rattle.walk.specs.Laws.Twigs.{job_inside}
use Rattle.walk.specs.declared.descent.Walk.{Walk}
use Rattle.walk.specs.declared.choice.Known.{Known}

module _ {o : Walk} {j from to depth : ℕ} {known : Known} (A : GrowAsk o j from to depth known) where
  abbrev J : JobSet
  J = set_of (jobs_of o)

  loaded : Loaded (jobs_of o)
  loaded = o.set.now.loaded

  -- no switch may follow
  pub grown_none : {parent : ℕ} → depth ≡ 0 → Grown o o j from to parent depth
  grown_none e = record { kept = kept_all o; wrote = λ S B R p q. rw (grow_zero J S B depth e) (wrote_none o.room) }

  high : High A.box.to depth
  high = rw A.ends at A.high

  -- when the running segment ends, by the row
  early_is : {S : State} {B : Box} → Rep (jobs_of o) o.state j S B → from ≡ B.from → from + (standing_at o.state j).least ≡ early J S B
  early_is {S} {B} R e = rw (e, R.job) (ap (λ (x : ℕ). B.from + x) (R.stands.low S.job R.sound.inside))

  late_is : {S : State} {B : Box} → Rep (jobs_of o) o.state j S B → to ≡ B.to → to + (standing_at o.state j).most ≡ late J S B
  late_is {S} {B} R e = rw (e, R.job) (ap (λ (x : ℕ). B.to + x) (R.stands.high S.job R.sound.inside))

  pub late_fits : to + (standing_at o.state j).most ≤ 101000000
  late_fits = omega (arith, late_is A.rep A.ends, late_small loaded A.rep high)

  pub early_fits : from + (standing_at o.state j).least ≤ 101000000
  early_fits =
      let S = A.state in
      let O = A.rep.sound in
      omega (
        arith,
        late_fits,
        early_is A.rep A.starts,
        late_is A.rep A.ends,
        O.ends,
        O.order S.job (present S) O.inside (alive_seg J S.control S.job O.alive),
      )

  -- e, y and l are the earliest and the latest end, and the latest leaving
  module _ {v e y l : ℕ} {by : Known} (some : 0 < depth) (ee : e ≡ from + (standing_at o.state j).least) (ey : y ≡ to + (standing_at o.state j).most) (ek : by.first ≡ known.first)
      (M : OutBy (jobs_of o) from by.released) (ev : v ≡ (standing_at o.state j).key / 32)
      (U : Aboves (jobs_of o) o.state by.released v y l) where
    latest_is : {S : State} {B : Box} → Rep (jobs_of o) o.state j S B → from ≡ B.from → to ≡ B.to → l ≡ latest J S B
    latest_is {S} R p q =
        let κ = S.control in
        let g : v ≡ weight J κ S.job
        = ev ∙ weighs (jobs_of o) o.state loaded j (job_inside loaded R) κ R.stands.keyed ∙ ap (weight J κ) R.job in
        U.aboves from M κ R.stands.keyed ∙ rw (p, g, ey, late_is R q)

    pub grow_leaves : LeaveAsk o j e l depth by
    grow_leaves = record {
      next = record { first = rw ek A.next.first; out = out_later (omega arith) (out_by M) };
      state = A.state;
      box = A.box;
      rep = A.rep;
      early = ee ∙ early_is A.rep A.starts;
      latest = latest_is A.rep A.starts A.ends;
      some = some;
      high = high;
    }

    module _ {parent : ℕ} {n : Walk} (D : Left o n j e l parent depth) where
      left_wrote : {S : State} {B : Box} → Rep (jobs_of o) o.state j S B → from ≡ B.from → to ≡ B.to
          → Writes o n parent (hang (grow J (depth - 1)) (leaves J S B))
      left_wrote R p q = D.wrote _ _ R (ee ∙ early_is R p) (latest_is R p q)

      no_cuts : {S : State} {B : Box} → Rep (jobs_of o) o.state j S B → from ≡ B.from → to ≡ B.to → y ≤ l → cuts J S B ≡ []
      unfolding cuts
      no_cuts {S} {B} R p q h = if-ge (latest J S B) (late J S B) _ _ (omega (arith, latest_is R p q, late_is R q))

      -- there is no cut
      pub grown_left : y ≤ l → Grown o n j from to parent depth
      grown_left h = record {
        kept = D.kept;
        wrote = λ S B R p q. rw (grow_some J S B depth some R.sound.inside, no_cuts R p q h, append-nil) (left_wrote R p q);
      }

      -- there is one
      cut_later : l < y → from ≤ l
      cut_later h =
          let S = A.state in
          let B = A.box in
          let lasts : l ≡ latest J S B = latest_is A.rep A.starts A.ends in
          let (i, a1, a2, a3, a4) = (cut_law J loaded.lawful S B.from (late J S B)).hit (omega (arith, late_is A.rep A.ends)) in
          omega (arith, A.starts)

      pub grow_cuts : l < y → CutAsk n j e y l depth by
      grow_cuts h = record {
        next = rw (D.kept.set, D.kept.state) (record { first = rw ek A.next.first; out = out_later (cut_later h) (out_by M) });
        state = A.state;
        box = A.box;
        rep = rw (D.kept.set, D.kept.state) A.rep;
        early = ee ∙ early_is A.rep A.starts;
        late = ey ∙ late_is A.rep A.ends;
        latest = rw D.kept.set (latest_is A.rep A.starts A.ends);
        cut = h;
        some = some;
        high = high;
      }

      pub grown_cut : {m : Walk} → CutOff n m j e y l parent depth → Grown o m j from to parent depth
      grown_cut C = record {
        kept = kept_on D.kept C.kept;
        wrote = λ S B R p q. rw (grow_some J S B depth some R.sound.inside)
            (wrote_append (grow J (depth - 1)) (leaves J S B) (cuts J S B) (left_wrote R p q)
            (rw (D.kept.set, D.kept.cap) at (C.wrote S B (rw (D.kept.set, D.kept.state) R) (ee ∙ early_is R p) (ey ∙ late_is R q)
            (rw D.kept.set (latest_is R p q)))));
      }
