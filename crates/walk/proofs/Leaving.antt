-- The path through `leave`: from the running job to the loop over the spans, and back.
use Rattle.std.proofs.Common.{ℕ, suc, ◌+◌, ◌-◌, ◌≤◌, ◌<◌, arith, ◌≡◌, ◌∙◌, refl}
use Rattle.kernel.specs.Code.{kind_of}
use Rattle.kernel.specs.declared.kind.Kind.{Kind as CodeKind}
use Rattle.kernel.specs.Rules.{JobSet}
use Rattle.kernel.specs.Held.{set_of, Loaded}
use Rattle.kernel.specs.Laws.Sums.{one_of_sum}
use Rattle.kernel.specs.Laws.Places.{put2}
use Rattle.kernel.specs.Laws.Control.{leave}
use Rattle.kernel.specs.Laws.Fall.{alive_seg}
use Rattle.kernel.specs.Laws.Step.{State, present, leave_kind_of}
use Rattle.orders.specs.Laws.Box.{Box, early, latest, leaves, leave_child, leave_spans}
use Rattle.orders.specs.Laws.Walk.{hang, grow}
use Rattle.std.proofs.Math.ListN.{set}
use Rattle.walk.specs.State.{standing_at, begun_at}
use Rattle.walk.specs.Choice.{Ended, First}
use Rattle.walk.specs.Switches.{leave_kind_for}
use Rattle.walk.specs.Counts.{Room}
use Rattle.walk.specs.Descent.{jobs_of, with_job, Rep, LeaveAsk, Left}
use Rattle.walk.proofs.Keeping.{kept_back}
use Rattle.walk.specs.Laws.Ticks.{high_latest}
use Rattle.walk.specs.Laws.Twigs.{present_word, AfterLeaving, after_leaving}
use Rattle.walk.specs.Laws.Unfinished.{running_key, put_ended}
use Rattle.walk.proofs.Turn.{leavings, Turn, turn_start, turn_end}
use Rattle.walk.specs.declared.state.Standing.{Standing}
use Rattle.walk.specs.declared.descent.Walk.{Walk}
use Rattle.walk.specs.declared.choice.Known.{Known}

module _ {o : Walk} {j e l depth : ℕ} {known : Known} (A : LeaveAsk o j e l depth known) where
  abbrev J : JobSet
  J = set_of (jobs_of o)

  loaded : Loaded (jobs_of o)
  loaded = o.set.now.loaded

  segment_is : {S : State} {B : Box} → Rep (jobs_of o) o.state j S B → (standing_at o.state j).segment ≡ present S
  segment_is R = present_word loaded R

  -- the segment's number can be counted up
  pub segment_small : (standing_at o.state j).segment ≤ 64
  segment_small =
      let S = A.state in
      let O = A.rep.sound in
      omega (
        arith,
        segment_is A.rep,
        alive_seg J S.control S.job O.alive,
        one_of_sum J.segments J.jobs S.job O.inside,
        loaded.few_segments,
      )

  -- none of the finished jobs is changed
  pub leave_ended : (x : Standing) → Ended (jobs_of o) (set o.state j x) known.first
  leave_ended x = put_ended j x (running_key A.rep) A.next.first.before

  -- the spans are those of all leavings
  whole : (S : State) (B : Box) → e ≡ early J S B → l ≡ latest J S B
      → hang (grow J (depth - 1)) (leaves J S B)
      ≡ leavings J depth (leave_kind_of J S) (leave S.control S.job)
      (put2 B.least S.job (present S) 0) (put2 B.most S.job (present S) 0) l e
  unfolding leaves leave_child leave_spans
  whole S B p q = rw (p, q)

  module _ {k : ℕ} {coded : CodeKind} {x : Standing} (ek : k ≡ (standing_at o.state j).segment + 1) (en : kind_of coded ≡ leave_kind_for J j k)
      (ex : x ≡ begun_at J j k) where
    after : {S : State} {B : Box} → Rep (jobs_of o) o.state j S B → e ≡ early J S B
        → AfterLeaving (jobs_of o) (set o.state j x) coded e (leave_kind_of J S) (leave S.control S.job)
        (put2 B.least S.job (present S) 0) (put2 B.most S.job (present S) 0)
    unfolding leave_kind_of
    after {S} R p =
        let e : k ≡ suc (present S) = omega (arith, segment_is R) in
        rw (ex, p) (after_leaving loaded R ek (en ∙ rw (e, R.job)))

    module _ {parent next : ℕ} (N : First (jobs_of o) (set o.state j x) next) where
      pub leave_starts : {r : Room o.seen o.cap}
          → Turn (with_job o j x r) coded e l parent depth (record { first = next; released = known.released }) (with_job o j x r) e
      leave_starts = turn_start (record {
        next = record { first = N; out = A.next.out };
        kind = _;
        control = _;
        least = _;
        most = _;
        after = after A.rep A.early;
        high = rw A.latest (high_latest loaded A.rep A.high A.some);
      })

      pub left_all : {r : Room o.seen o.cap} {n : Walk} {again : Room n.seen n.cap} {t : ℕ}
          → Turn (with_job o j x r) coded e l parent depth (record { first = next; released = known.released }) n t → l < t
          → Left o (with_job n j (standing_at o.state j) again) j e l parent depth
      left_all T h = record {
        kept = kept_back {o = o} j x T.kept refl refl;
        wrote = λ S B R p q. rw (whole S B p q) (turn_end T h (after R p));
      }
