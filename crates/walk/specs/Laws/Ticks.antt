-- Ticks stay small: no switch brings them further than the longest segment does.
use Rattle.walk.specs.declared.state.Standing.{Standing}
use Rattle.kernel.specs.declared.jobs.Jobs.{Jobs}
use Rattle.std.specs.Prelude.{ℕ, ◌-◌, ◌≤◌, ◌<◌, max, ◌≡◌, List}
use Rattle.std.proofs.Common.{arith, ap}
use Rattle.kernel.specs.Held.{set_of, Loaded}
use Rattle.kernel.specs.Laws.Tests.{split}
use Rattle.kernel.specs.Laws.Step.{State, present}
use Rattle.orders.specs.Laws.Box.{Box, late, latest}
use Rattle.orders.specs.Laws.Spans.{cut_law, cut_le, same_cut}
use Rattle.walk.specs.Descent.{High, Rep}

-- also the tick at which no job is released
pub release_small : (w : Jobs) → Loaded w → (i : ℕ) → i ≤ (set_of w).jobs → (set_of w).release i ≤ 1000000
release_small w L i h = split i (set_of w).jobs
    (λ q. omega (arith, L.small_release i q, L.small_frame))
    (λ q. let e : i ≡ (set_of w).jobs = omega arith in omega (arith, ap (set_of w).release e, L.lawful.none_released))

-- a switch at a tick up to `top`
pub high_switch : {w : Jobs} {top depth last i : ℕ} → Loaded w → High top depth → last ≤ top → i ≤ (set_of w).jobs
    → High (max last ((set_of w).release i)) depth
high_switch {w} {i = i} L H h q = record { near = omega (arith, H.near, H.deep, release_small w L i q); deep = H.deep }

module _ {w : Jobs} {s : List Standing} {j depth : ℕ} {S : State} {B : Box} (L : Loaded w) (R : Rep w s j S B) (H : High B.to depth) where
  most_small : B.most S.job (present S) ≤ 1000000
  most_small = omega (arith, R.stands.high S.job R.sound.inside, R.stands.small S.job R.sound.inside)

  -- the running segment ends at a small tick
  pub late_small : late (set_of w) S B ≤ 101000000
  late_small = omega (arith, most_small, H.near)

  -- a cut comes after every start, so that little is left
  pub rest_small : latest (set_of w) S B < late (set_of w) S B → late (set_of w) S B - latest (set_of w) S B ≤ 1000000
  rest_small h =
      let O = R.sound in
      let e = same_cut (set_of w) L.lawful S B O B.to (late (set_of w) S B) O.ends (omega arith) (omega arith) h in
      let (i, a1, a2, a3, a4) = (cut_law (set_of w) L.lawful S B.to (late (set_of w) S B)).hit (omega arith) in
      omega (arith, most_small)

  pub high_latest : 0 < depth → High (latest (set_of w) S B) (depth - 1)
  high_latest z = record {
    near = omega (arith, most_small, H.near, H.deep, cut_le (set_of w) L.lawful S B.from (late (set_of w) S B));
    deep = omega (arith, H.deep);
  }
