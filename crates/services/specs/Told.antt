-- The times that a log tells, as the code reads them off: one word per segment in table order.
use Rattle.kernel.specs.declared.jobs.Jobs.{Jobs}
use Rattle.std.specs.Prelude.{ℕ, zero, suc, ◌+◌, ◌*◌, ◌-◌, ◌/◌, ◌<◌, min, max, ◌≡◌, cond, List, [], ◌∷◌, ◌++◌, length, replicate, get_or, set, ltb}
use Rattle.kernel.specs.Rules.{JobSet}
use Rattle.kernel.specs.Log.{kind_number, named, time_in}
use Rattle.kernel.specs.Held.{set_of, first_of}
use Rattle.kernel.specs.Laws.Times.{Entry, times_of}
use Rattle.services.specs.declared.told.Ran.{Ran}

-- what ran has run until this tick; where no segment ran nothing changes
unfoldable pub credited : Jobs → Ran → (tick : ℕ) → List ℕ → List ℕ
credited w ran tick times =
    let at = first_of w ran.job + ran.segment in
    cond (ltb ran.segment ((set_of w).segments ran.job)) (set times at (min (get_or times at 0 + (tick - ran.since)) 4294967295)) times

abbrev pub ran_next : Jobs → (tick job segment : ℕ) → Ran
ran_next w tick job segment = record { job = job; segment = segment; since = max tick ((set_of w).release job) }

-- how far a log is read: the times so far, and what ran last
pub record Heard : Type 0 where
  pub times : List ℕ
  pub ran : Ran

abbrev pub hearing : (w : Jobs) (log : List ℕ) (i : ℕ) → Heard → Heard
hearing w log i h =
    let tick = get_or log (4 * i + 1) 0 in
    record { times = credited w h.ran tick h.times; ran = ran_next w tick (get_or log (4 * i + 2) 0) (get_or log (4 * i + 3) 0) }

-- the first n switches of a log, whatever its words are
unfoldable pub heard : (w : Jobs) (log : List ℕ) (n : ℕ) → Heard
heard w log zero = record { times = replicate 64 0; ran = record { job = (set_of w).jobs; segment = 0; since = 0 } }
heard w log (suc n) = hearing w log n (heard w log n)

-- the times that a log tells
abbrev pub times_told : (w : Jobs) (log : List ℕ) → List ℕ
times_told w log = (heard w log (length log / 4)).times

-- the words of a log's entries
abbrev pub entry_words : JobSet → Entry → List ℕ
entry_words J v = kind_number v.kind ∷ v.tick ∷ named J v.job v.job ∷ named J v.job v.segment ∷ []

unfoldable pub entries_words : JobSet → List Entry → List ℕ
entries_words J [] = []
entries_words J (v ∷ vs) = entry_words J v ++ entries_words J vs

-- of a log that has entries: each segment's time as they tell it, where that is a word
pub record TellsTimes (w : Jobs) (log times : List ℕ) : Type 0 where
  pub size : length times ≡ 64
  pub tells : (l : List Entry) → log ≡ entries_words (set_of w) l
      → (i k : ℕ) → i < (set_of w).jobs → k < (set_of w).segments i → time_in (set_of w) times i k ≡ min (times_of (set_of w) l i k) 4294967295
