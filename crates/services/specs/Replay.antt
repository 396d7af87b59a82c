-- Replay: a table and times to a log (paper 01, 'Switches and logs').
use Rattle.std.specs.Prelude.{ℕ, ◌≤◌, ◌<◌, ◌≡◌, List, length, Result, Ok}
use Rattle.std.proofs.lemmas.List.Edits.{sets}
use Rattle.kernel.specs.Rules.{JobSet, Switch, run_of}
use Rattle.kernel.specs.Log.{log_words, time_in}
use Rattle.services.specs.Refusals.{Declines}
use Rattle.services.specs.Open.{jobs_in, Answered}
use Rattle.services.specs.Times.{Fit}
use Rattle.services.specs.declared.refusal.Refusal.{Refusal}

-- the switches of the run with these times, and its log
abbrev pub run_in : JobSet → List ℕ → List Switch
run_in J times = run_of J (time_in J times)

abbrev pub log_in : JobSet → List ℕ → List ℕ
log_in J times = log_words J (run_in J times)

module _ (times before after : List ℕ) (r : Result ℕ Refusal) where
  -- with a refusal the lent words hold what they held
  abbrev pub Declined : ℕ → Type 0
  Declined n = Declines r n × (after ≡ before)

  -- the log stands at the start of the lent words, and nothing after it is touched
  pub record Replays (J : JobSet) : Type 0 where
    -- 6: not exactly one time per segment, or one outside its bounds
    pub unfit : (Fit J times → ⊥) → Declined 6
    -- 7: the log needs more words than are lent
    pub small : Fit J times → length before < length (log_in J times) → Declined 7
    pub done : Fit J times → length (log_in J times) ≤ length before
        → (r ≡ Ok (length (run_in J times))) × (after ≡ sets before 0 (log_in J times))

-- what replay promises
abbrev pub ReplayPromise : (bytes times before after : List ℕ) → Result ℕ Refusal → Type 0
ReplayPromise bytes times before after r = Answered bytes (Declined times before after r) (Replays times before after r (jobs_in bytes))
