use Rattle.std.proofs.Common.{◌≡◌, ℕ, suc, ◌*◌, get_or, refl, sym, ap, ◌∙◌, subst, arith, rules}
use Rattle.std.proofs.lemmas.List.Edits.{sets}
use Rattle.kernel.specs.Rules.{JobSet}
use Rattle.kernel.specs.Jobs.{largest}
use Rattle.kernel.specs.Held.{set_of}
use Rattle.kernel.specs.Code.{State, state_of, Runs, Released, settled, note_words, tick_step}
use Rattle.kernel.specs.Laws.Key.{job_of}
use Rattle.kernel.proofs.Release.{none_released, ended_job}
use Rattle.kernel.proofs.Going.{start, stopped, few_segments, settled_yes, settled_no, same_releases}
use Rattle.kernel.proofs.Turn.{Turn, few_switches, ending, idling, logged_as, some_job, small_job, runs_on, starts, loop_same}
use Rattle.kernel.specs.declared.log.Log.{Log}
use Rattle.kernel.specs.declared.state.Standings.{Standings}
use Rattle.kernel.specs.declared.state.Processor.{Processor}
use Rattle.kernel.proofs.run.Goals as goal
use Rattle.kernel.proofs.run.Goals.{After-dispatched, In-Some, then-ended, else-ended, then-released, else-released, in-None+else-none_from, in-Some, then-d-processor, else-d-processor}

-- ---- the words and the switches of a log

same_words : (x y : Log) → x ≡ y → x.words.now ≡ y.words.now
same_words x y e = ap (λ (z : Log). z.words.now) e

same_count : (x y : Log) → x ≡ y → x.count ≡ y.count
same_count x y e = ap (λ (z : Log). z.count) e

same_name : (x y : Log) → x ≡ y → x.words.ghost_name ≡ y.words.ghost_name
same_name x y e = ap (λ (z : Log). z.words.ghost_name) e

-- ---- the state in two values

same_state : {s s' : Standings} {p p' : Processor} → s ≡ s' → p ≡ p' → state_of s p ≡ state_of s' p'
same_state e f = rw (e, f)

same_left : (s s' : State) → s ≡ s' → s.left ≡ s'.left
same_left s s' e = ap (λ (x : State). x.left) e

-- ---- what is known once a job is chosen

module _ (c : After-dispatched) where
  abbrev before : State
  before = state_of c.loop-tick.standings c.loop-tick.processor

  abbrev ended : State
  ended = state_of c.if-ended.standings c.if-ended.processor

  abbrev ready : State
  ready = state_of c.if-released.standings c.if-released.processor

  -- 1. the segment that has had its time has ended
  ended_first : ended ≡ settled c.args.set.now.jobs c.args.times.now c.loop-tick.tick before
  ended_first = elim c.if-ended.branch [
    | then-ended w ↦ settled_yes _ _ c.loop-tick.invariant.loop.runs _ before ended (sym c.ended-ended.ensures ∙ search rules) (same_state w.standings-is w.processor-is ∙ w.end_segment.ensures)
    | else-ended w ↦ settled_no _ _ c.loop-tick.invariant.loop.runs _ before ended (sym c.ended-ended.ensures ∙ search rules) (same_state w.standings-is w.processor-is)
  ]

  -- 2. the jobs of the tick are released
  then_released : Released c.args.set.now.jobs c.loop-tick.tick ended ready
  then_released = elim c.if-released.branch [
    | then-released w ↦ subst (Released c.args.set.now.jobs c.loop-tick.tick ended) (sym (same_state w.standings-is w.processor-is)) w.release.ensures
    | else-released w ↦ subst (Released c.args.set.now.jobs c.loop-tick.tick ended) (sym (same_state w.standings-is w.processor-is)) (record {
      some = none_released _ _ _;
      done = same_releases _ _ c.loop-tick.invariant.loop.runs _ before ended ended_first ∙ sym c.releases-released.ensures ∙ w.if-released.false;
    })
  ]

  -- the turn that dispatches d
  turn : (d : ℕ) → d ≡ job_of (set_of c.args.set.now.jobs).jobs (largest (λ i. get_or c.if-released.standings.key i 0) 32)
      → Turn c.args.set.now.jobs c.args.times.now c.args.log.now c.loop-tick.log.words.now before ready c.loop-tick.log.count c.loop-tick.tick d
  turn d h = record {
    loop = c.loop-tick.invariant.loop;
    time = omega (arith, c.loop-tick-test.true, c.frame-frame.ensures);
    settled = rw (← ended_first) then_released;
    choice = h;
  }

module _ (c : In-Some) where
  abbrev J : JobSet
  J = set_of c.args.set.now.jobs

  -- a job is dispatched
  this : Turn c.args.set.now.jobs c.args.times.now c.args.log.now c.loop-tick.log.words.now (before (goal.at.In-Some c).After-dispatched) (ready (goal.at.In-Some c).After-dispatched) c.loop-tick.log.count c.loop-tick.tick c.in-Some.d
  this = turn (goal.at.In-Some c).After-dispatched c.in-Some.d (c.in-Some.ensures J.jobs)

  some : c.in-Some.d ≡ J.jobs → ⊥
  some = some_job this (c.in-Some.ensures (suc J.jobs))

-- ---- the goals

pub loop-tick-init : goal.loop-tick-init
loop-tick-init c =
    let runs : Runs c.args.set.now.jobs c.args.times.now = record { loaded = c.args.set.now.loaded; within = c.requires } in
    record { loop = record { runs = runs; going = start _ _ runs _ _ (rw c.idle-processor.ensures c.fresh-standings.ensures); size = refl }; lent = refl }

pub end_segment-requires : goal.end_segment-requires
end_segment-requires c =
    let runs = c.loop-tick.invariant.loop.runs in
    let inside = ended_job _ (state_of c.loop-tick.standings c.loop-tick.processor) (sym c.ended-ended.ensures ∙ search rules) in
    (omega (arith, inside, runs.loaded.few_jobs), few_segments _ _ runs _ _ _ _ _ c.loop-tick.invariant.loop.going inside)

pub last-requires : goal.last-requires
last-requires c = let d = (goal.at.last-requires c).After-dispatched in few_switches (turn d _ (c.in-None.ensures (set_of c.args.set.now.jobs).jobs))

pub returns-then-none_from : goal.returns-then-none_from
returns-then-none_from c =
    let d = (goal.at.returns-then-none_from c).After-dispatched in
    logged_as (ending (turn d _ (c.in-None.ensures (set_of c.args.set.now.jobs).jobs)) refl c.none_from.result c.none_from.ensures c.if-none_from.true)
    (search (rules, c.last.ensures.lent ∙ c.loop-tick.invariant.lent) ∙ c.last.ensures.words) c.last.ensures.count

pub overflow_cast-d : goal.overflow_cast-d
overflow_cast-d c = let d = (goal.at.overflow_cast-d c).In-Some in omega (arith, small_job (this d) (some d))

pub present-requires : goal.present-requires
present-requires c = let d = (goal.at.present-requires c).In-Some in small_job (this d) (some d)

pub note-requires : goal.note-requires
note-requires c = few_switches (this (goal.at.note-requires c).In-Some)

pub dispatch-requires : goal.dispatch-requires
dispatch-requires c = let d = (goal.at.dispatch-requires c).In-Some in small_job (this d) (some d)

pub run_tick-requires : goal.run_tick-requires
run_tick-requires c =
    let d = (goal.at.run_tick-requires c).In-Some in
    elim c.if-d-processor.branch [
      | then-d-processor w ↦ rw (w.processor-is, same_left _ _ w.dispatch.ensures) (starts (this d) (some d) w.if-d-processor.true).0
      | else-d-processor w ↦ rw w.processor-is (runs_on (this d) (some d) w.if-d-processor.false).0
    ]

pub loop-tick-preserved : goal.loop-tick-preserved
loop-tick-preserved c =
    let d = (goal.at.loop-tick-preserved c).After-dispatched in
    elim c.match-dispatched.branch [
      | in-None+else-none_from w ↦ record {
        loop = loop_same (idling (turn d _ (w.in-None.ensures (set_of c.args.set.now.jobs).jobs)) refl w.none_from.result w.none_from.ensures w.if-none_from.false)
            (same_words _ _ w.log-is) (same_state w.standings-is w.processor-is) (same_count _ _ w.log-is);
        lent = same_name _ _ w.log-is ∙ c.loop-tick.invariant.lent;
      }
      | in-Some w ↦
          let t = turn d w.in-Some.d (w.in-Some.ensures (set_of c.args.set.now.jobs).jobs) in
          let n = some_job t (w.in-Some.ensures (suc (set_of c.args.set.now.jobs).jobs)) in
          elim w.if-d-processor.branch [
            | then-d-processor w' ↦ record {
              loop = loop_same (starts t n w'.if-d-processor.true).1
                  (same_words _ _ (w.log-is ∙ w'.log-is) ∙ w'.note.ensures.words ∙ ap (λ (k : ℕ). sets c.loop-tick.log.words.now (4 * c.loop-tick.log.count) (note_words c.if-released.processor.due c.loop-tick.tick w.in-Some.d k)) w'.present.ensures)
                  (same_state w.standings-is w.processor-is ∙ w.run_tick.ensures _ ∙ ap tick_step (same_state w'.standings-is w'.processor-is ∙ w'.dispatch.ensures))
                  (same_count _ _ (w.log-is ∙ w'.log-is) ∙ w'.note.ensures.count);
              lent = same_name _ _ (w.log-is ∙ w'.log-is) ∙ w'.note.ensures.lent ∙ c.loop-tick.invariant.lent;
            }
            | else-d-processor w' ↦ record {
              loop = loop_same (runs_on t n w'.if-d-processor.false).1 (same_words _ _ (w.log-is ∙ w'.log-is)) (same_state w.standings-is w.processor-is ∙ w.run_tick.ensures _ ∙ ap tick_step (same_state w'.standings-is w'.processor-is)) (same_count _ _ (w.log-is ∙ w'.log-is));
              lent = same_name _ _ (w.log-is ∙ w'.log-is) ∙ c.loop-tick.invariant.lent;
            }
          ]
    ]

pub returns : goal.returns
returns c =
    let inv = c.loop-tick.invariant.loop in
    logged_as (stopped _ _ inv.runs _ _ _ _ _ inv.going (omega (arith, c.loop-tick-test.false, c.frame-frame.ensures))) (search (rules, c.loop-tick.invariant.lent)) refl
