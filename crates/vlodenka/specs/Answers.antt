-- What the C functions promise: what the services promise, with the answer's parts where C has them.
use Rattle.std.specs.Prelude.{ℕ, min, ◌≡◌, List, Result}
use Rattle.std.specs.Result.{result_unwrap_or}
use Rattle.table.specs.Part.{start_of, length_of}
use Rattle.services.specs.declared.Counts.{Counts}
use Rattle.services.specs.declared.refusal.Refusal.{Refusal}
use Rattle.services.specs.Refusals.{number_of}
use Rattle.services.specs.Replay.{ReplayPromise}
use Rattle.services.specs.Judge.{JudgePromise}
use Rattle.services.specs.Tree.{TreePromise}

-- of a tree: none with a refusal
abbrev pub counts_of : Result Counts Refusal → Counts
counts_of r = result_unwrap_or r (record { nodes = 0; orders = 0 })

abbrev pub Replays : (bytes times before after : List ℕ) → (switches refusal : ℕ) → Type 0
Replays bytes times before after switches refusal =
    (r : Result ℕ Refusal) × ReplayPromise bytes times before after r × (switches ≡ result_unwrap_or r 0) × (refusal ≡ number_of r)

-- accepted just if the refusal is 0
abbrev pub Judges : (bytes log before after : List ℕ) → (refusal : ℕ) → Type 0
Judges bytes log before after refusal = (r : Result (Unit {0}) Refusal) × JudgePromise bytes log before after r × (refusal ≡ number_of r)

abbrev pub Draws : (bytes before after : List ℕ) → (nodes orders refusal : ℕ) → Type 0
Draws bytes before after nodes orders refusal = (r : Result Counts Refusal) × TreePromise bytes before after r
    × (nodes ≡ (counts_of r).nodes) × (orders ≡ (counts_of r).orders) × (refusal ≡ number_of r)

-- where the records of a job lie
abbrev pub Places : List ℕ → (job start length : ℕ) → Type 0
Places bytes job start length = (start ≡ min (start_of bytes job) 4294967295) × (length ≡ min (length_of bytes job) 4294967295)
