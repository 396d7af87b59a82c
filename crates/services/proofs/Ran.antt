-- A run whose log was written into 384 words: the log stands at their start.
use Rattle.std.proofs.Common.{◌≡◌, ℕ, ◌/◌, ◌*◌, ◌≤◌, List, [], ◌∷◌, ◌++◌, length, take, drop, replicate, Ok, sym, refl, ap, ◌∙◌, ap₂, zero-add, arith}
use Rattle.std.proofs.Math.Seq.{sets, sets-eq}
use Rattle.std.proofs.lemmas.List.{length-replicate}
use Rattle.kernel.specs.declared.accepted.Accepted.{Accepted}
use Rattle.kernel.specs.Rules.{JobSet, Switch, Within}
use Rattle.kernel.specs.Log.{log_words, time_in}
use Rattle.kernel.specs.Held.{set_of}
use Rattle.kernel.specs.Code.{Logged}
use Rattle.kernel.specs.Laws.Steps.{run_bound}
use Rattle.kernel.specs.Laws.Stores.{take_sets}
use Rattle.services.specs.Times.{Fit}
use Rattle.services.specs.Replay.{run_in, log_in, Replays}

-- four words a switch
log_length : (J : JobSet) (l : List Switch) → length (log_words J l) ≡ 4 * length l
unfolding log_words
log_length J [] = refl
log_length J (s ∷ ss) = omega (arith, log_length J ss)

-- words put at the start of others
pub put_front : (before front vs : List ℕ) (n : ℕ) → front ≡ vs → n ≡ length vs → n ≤ length before → front ++ drop n before ≡ sets before 0 vs
put_front before front vs n e l h =
    let q = sets-eq vs before 0 (omega arith) in
    rw (e, l) (sym (rw zero-add at q))

module _ (set : Accepted) (times : List ℕ) (W : Within (set_of set.jobs) (time_in (set_of set.jobs) times))
    (after : List ℕ) (n : ℕ) (R : Logged set.jobs times (replicate 384 0) after n) where
  abbrev J : JobSet
  J = set_of set.jobs

  pub few_ran : n ≤ 96
  few_ran = omega (arith, R.switches, run_bound J set.loaded.lawful _ W, set.loaded.few_segments, set.loaded.few_jobs)

  pub log_ran : length (log_in J times) ≡ 4 * n
  log_ran = omega (arith, log_length J (run_in J times), R.switches)

  pub words_ran : take (4 * n) after ≡ log_in J times
  words_ran = ap₂ take (sym log_ran) R.words ∙ take_sets (log_in J times) (replicate 384 0) (omega (arith, log_ran, few_ran, length-replicate {A = ℕ} 384 0))

-- its words are copied out, and its switches counted
pub replay_done : (J : JobSet) (times before front words : List ℕ) → Fit J times → words ≡ log_in J times → length words ≤ length before → front ≡ words
    → Replays times before (front ++ drop (length words) before) (Ok (length words / 4)) J
replay_done J times before front words F e h q =
    let count : length words / 4 ≡ length (run_in J times) = omega (arith, ap length e, log_length J (run_in J times)) in
    record {
      unfit = λ n. absurd (n F);
      small = λ G z. absurd (omega (arith, ap length e));
      done = λ G z. (ap Ok count, put_front before front _ _ (q ∙ e) (ap length e) h);
    }
