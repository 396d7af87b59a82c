-- The path through `cut_off`: the running job is cut, and put back.
use Rattle.std.proofs.Common.{ℕ, ◌-◌, ◌≤◌, ◌<◌, max, arith, ◌≡◌, refl, ap, [], ◌∷◌}
use Rattle.kernel.specs.Rules.{JobSet, CUT}
use Rattle.kernel.specs.Held.{set_of, Loaded}
use Rattle.kernel.specs.Laws.Tests.{if-lt}
use Rattle.kernel.specs.Laws.Step.{State}
use Rattle.orders.specs.Laws.Box.{Box, child, early, late, latest, cut_span, cut_child, cuts}
use Rattle.std.proofs.Math.ListN.{set}
use Rattle.walk.specs.State.{standing_at, cut_as, Stands, key_at}
use Rattle.walk.specs.Switches.{SwitchAsk, Cuts}
use Rattle.walk.specs.Counts.{Room}
use Rattle.walk.specs.Descent.{jobs_of, with_job, Twig, HangAsk, Hung, Rep, CutAsk, CutOff}
use Rattle.walk.proofs.Keeping.{kept_back}
use Rattle.walk.specs.Laws.Ticks.{rest_small, high_switch, high_latest}
use Rattle.walk.specs.Laws.Twigs.{cut_least, cut_most, after_cut, cut_twig}
use Rattle.walk.specs.Laws.Keyed.{out_later}
use Rattle.walk.specs.Laws.Unfinished.{some_key, running_key, put_first}
use Rattle.walk.specs.declared.state.Standing.{Standing}
use Rattle.walk.specs.declared.switches.Switch.{Switch}
use Rattle.walk.specs.declared.descent.Walk.{Walk}
use Rattle.walk.specs.declared.choice.Known.{Known}

module _ {o : Walk} {j e y l depth : ℕ} {known : Known} (A : CutAsk o j e y l depth known)
    {cut : Standing} {some least : ℕ} (es : some ≡ e - l) (el : least ≡ max some 1) (ec : cut ≡ cut_as (standing_at o.state j) least (y - l)) where
  abbrev J : JobSet
  J = set_of (jobs_of o)

  loaded : Loaded (jobs_of o)
  loaded = o.set.now.loaded

  -- what is left of the segment is small
  left_small : y - l ≤ 1000000
  left_small = omega (arith, A.late, A.latest, rest_small loaded A.rep A.high (omega (arith, A.cut, A.late, A.latest)))

  cut_stands : {S : State} {B : Box} → Rep (jobs_of o) o.state j S B → e ≡ early J S B → y ≡ late J S B → l ≡ latest J S B
      → Stands J (set o.state j cut) S.control (cut_least J S B) (cut_most J S B)
  cut_stands R ee ey et = let left : max some 1 ≡ max 1 (e - l) = omega arith in rw (ec, el, left) (after_cut loaded R et ee ey left_small)

  -- a job that is cut is unfinished
  cut_key : 0 < key_at (set o.state j cut) j
  cut_key =
      let R = A.rep in
      rw (← R.job) at (some_key (cut_stands R A.early A.late A.latest) A.state.job R.sound.inside R.sound.alive)

  pub cut_switch : SwitchAsk (jobs_of o) (set o.state j cut) known l
  cut_switch = record { first = put_first j cut (running_key A.rep) cut_key A.next.first; out = A.next.out }

  module _ {x : Switch} (X : Cuts (jobs_of o) (set o.state j cut) l x) where
    twig : {S : State} {B : Box} → Rep (jobs_of o) o.state j S B → e ≡ early J S B → y ≡ late J S B → l ≡ latest J S B
        → Twig (jobs_of o) (set o.state j cut) x CUT S.control (cut_least J S B) (cut_most J S B) (cut_span J S (latest J S B))
    twig {S} {B} R ee ey et =
        let T = cut_stands R ee ey et in
        cut_twig loaded R T et (omega (arith, A.cut)) (X.cuts S.control T.keyed)

    pub cut_hangs : {r : Room o.seen o.cap} → HangAsk (with_job o j cut r) x (depth - 1) known
    cut_hangs =
        let T = twig A.rep A.early A.late A.latest in
        record {
          next = record { first = cut_switch.first; out = out_later (omega (arith, A.latest, ap (λ (y : Switch). y.from) T.switch)) A.next.out };
          kind = CUT;
          control = A.state.control;
          least = _;
          most = _;
          span = _;
          twig = T;
          high = rw T.switch (high_switch loaded (high_latest loaded A.rep A.high A.some) (omega arith) T.inside);
        }

    one_cut : (S : State) (B : Box) → y ≡ late J S B → l ≡ latest J S B
        → cuts J S B ≡ child J CUT S.control (cut_least J S B) (cut_most J S B) (cut_span J S (latest J S B)) ∷ []
    unfolding cuts cut_child
    one_cut S B ey et = if-lt (latest J S B) (late J S B) _ _ (omega (arith, A.cut))

    pub cut_all : {parent : ℕ} {r : Room o.seen o.cap} {n : Walk} {again : Room n.seen n.cap} → Hung (with_job o j cut r) n x parent (depth - 1)
        → CutOff o (with_job n j (standing_at o.state j) again) j e y l parent depth
    cut_all H = record {
      kept = kept_back {o = o} j cut H.kept refl refl;
      wrote = λ S B R ee ey et. rw (one_cut S B ey et) (H.wrote CUT S.control _ _ _ (twig R ee ey et));
    }
