-- The loop of `run`: its invariant with what the run was given, and the ways a turn can go.
use Rattle.kernel.specs.declared.jobs.Jobs.{Jobs}
use Rattle.std.proofs.Common.{ℕ, suc, ◌+◌, ◌*◌, ◌≤◌, ◌<◌, arith, ◌≡◌, sym, ◌∙◌, Bool, true, false, List, length, get_or}
use Rattle.std.proofs.Math.Seq.{length-sets}
use Rattle.std.proofs.lemmas.List.Edits.{sets}
use Rattle.kernel.specs.Rules.{dispatched, end_segment}
use Rattle.kernel.specs.Jobs.{largest}
use Rattle.kernel.specs.Log.{time_in}
use Rattle.kernel.specs.Held.{set_of}
use Rattle.kernel.specs.Code.{State, segment_in, dispatch_step, tick_step, Settled, NoneFrom, last_words, last_count, note_words, Runs, Logged}
use Rattle.kernel.specs.Laws.Tests.{split}
use Rattle.kernel.specs.Laws.Choice.{best_inside}
use Rattle.kernel.specs.Laws.Key.{job_of, job_none}
use Rattle.kernel.proofs.Going.{Going, few, chosen, no_key, finish, is_over, go_idle, go_on, go_switch, can_run, can_start}

pub record Loop (w : Jobs) (times before log : List ℕ) (s : State) (count tick : ℕ) : Type 0 where
  pub runs : Runs w times
  pub going : Going w times runs before log s count tick
  pub size : length log ≡ length before

-- a turn of the loop: the state is settled to q, and d is what it dispatches
pub record Turn (w : Jobs) (times before log : List ℕ) (s q : State) (count tick d : ℕ) : Type 0 where
  pub loop : Loop w times before log s count tick
  pub time : tick ≤ (set_of w).frame
  pub settled : Settled w times tick s q
  pub choice : d ≡ job_of (set_of w).jobs (largest (λ i. get_or q.key i 0) 32)

module _ {w : Jobs} {times before log : List ℕ} {s q : State} {count tick d : ℕ} (T : Turn w times before log s q count tick d) where
  abbrev runs : Runs w times
  runs = T.loop.runs

  abbrev G : Going w times runs before log s count tick
  G = T.loop.going

  is_d : dispatched (set_of w) tick (end_segment (set_of w) (time_in (set_of w) times) tick G.run) ≡ d
  is_d = chosen w times runs before log s q count tick G T.time T.settled d T.choice

  pub few_switches : count < 4096
  few_switches = omega (arith, few w times runs before log s count tick G)

  pub ending : d ≡ (set_of w).jobs → (b : Bool) → NoneFrom (set_of w) q.released b → b ≡ true
      → Logged w times before (sets log (4 * count) (last_words q.due)) (count + last_count q.due)
  ending z b N h = finish w times runs before log s q count tick G T.time T.settled
      (is_over w times runs before log s q count tick G T.time T.settled (omega (arith, is_d)) b N h)

  pub idling : d ≡ (set_of w).jobs → (b : Bool) → NoneFrom (set_of w) q.released b → b ≡ false → Loop w times before log q count (tick + 1)
  idling z b N h = record {
    runs = runs;
    going = go_idle w times runs before log s q count tick G T.time T.settled (omega (arith, is_d)) b N h;
    size = T.loop.size;
  }

  -- a job that is dispatched is one of the set's
  pub is_job : (d ≡ (set_of w).jobs → ⊥) → d < (set_of w).jobs
  is_job n = split d (set_of w).jobs (λ h. h) (λ (h : (set_of w).jobs ≤ d). absurd (n (omega (arith, is_d, best_inside (set_of w) runs.loaded.lawful (end_segment (set_of w) (time_in (set_of w) times) tick G.run).progress tick))))

  -- so it is one where the choice does not hang on what stands for none
  pub some_job : d ≡ job_of (suc (set_of w).jobs) (largest (λ i. get_or q.key i 0) 32) → d ≡ (set_of w).jobs → ⊥
  some_job p z =
      omega (arith, p, job_none (suc (set_of w).jobs) _ (no_key w times runs before log s q count tick G T.time T.settled (sym T.choice ∙ z)), z)

  pub small_job : (d ≡ (set_of w).jobs → ⊥) → d < 32
  small_job n = omega (arith, is_job n, runs.loaded.few_jobs)

  module _ (n : d ≡ (set_of w).jobs → ⊥) where
    pub runs_on : d ≡ q.running → (1 ≤ q.left) × Loop w times before log (tick_step q) count (tick + 1)
    runs_on z = (
      can_run w times runs before log s q count tick G T.time T.settled d is_d (is_job n) z,
      record {
        runs = runs;
        going = go_on w times runs before log s q count tick G T.time T.settled d is_d (is_job n) z;
        size = T.loop.size;
      },
    )

    pub starts : (d ≡ q.running → ⊥) → (1 ≤ (dispatch_step w d q).left)
        × Loop w times before (sets log (4 * count) (note_words q.due tick d (segment_in q d))) (tick_step (dispatch_step w d q)) (count + 1) (tick + 1)
    starts z = (
      can_start w times runs before log s q count tick G T.time T.settled d is_d (is_job n) z,
      record {
        runs = runs;
        going = go_switch w times runs before log s q count tick G T.time T.settled d is_d (is_job n) z;
        size = length-sets log (4 * count) (note_words q.due tick d (segment_in q d)) ∙ T.loop.size;
      },
    )

pub loop_same : {w : Jobs} {times before log log' : List ℕ} {s s' : State} {count count' tick : ℕ} → Loop w times before log s count tick
    → log' ≡ log → s' ≡ s → count' ≡ count → Loop w times before log' s' count' tick
loop_same L p q r = rw (p, q, r) L

-- the words that were lent are those of the log
pub logged_as : {w : Jobs} {times before log log' : List ℕ} {count count' : ℕ} → Logged w times before log count → log' ≡ log → count' ≡ count → Logged w times before log' count'
logged_as L p q = rw (p, q) L
