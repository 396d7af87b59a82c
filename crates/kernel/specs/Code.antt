-- What the functions of the kernel's code promise: each step of a tick on the state as the code holds it. Laws/Shows.antt ties it to the rules.
use Rattle.kernel.specs.declared.jobs.Jobs.{Jobs}
use Rattle.std.specs.Prelude.{ℕ, zero, suc, ◌+◌, ◌-◌, ◌*◌, ◌≤◌, ◌<◌, ◌≡◌, Bool, true, false, cond, ◌&&◌, List, [], ◌∷◌, length, get_or, set, ltb, leb, eqb, Option, None, Some}
use Rattle.std.proofs.lemmas.List.Edits.{sets}
use Rattle.kernel.specs.Rules as rules
use Rattle.kernel.specs.Rules.{JobSet, Within, run_of}
use Rattle.kernel.specs.Log.{kind_number, nothing, log_words, time_in}
use Rattle.kernel.specs.Held.{set_of, first_of, Loaded}
use Rattle.kernel.specs.Laws.Tests.{iflt}
use Rattle.kernel.specs.Laws.Key.{key_of}
use Rattle.kernel.specs.declared.kind.Kind.{Kind}
use Rattle.kernel.specs.declared.kind.Kind.TheVariants.{First as KindFirst, End, Step, Cut}
use Rattle.kernel.specs.declared.log.Log.{Log}
use Rattle.kernel.specs.declared.state.Due.{Due}
use Rattle.kernel.specs.declared.state.Due.TheVariants.{First as DueFirst, Cutting, Leaving}
use Rattle.kernel.specs.declared.state.Standing.{Standing}
use Rattle.kernel.specs.declared.state.Standings.{Standings}
use Rattle.kernel.specs.declared.state.Processor.{Processor}

-- ---- kinds, and what is due, as the rules have them

abbrev pub kind_of : Kind → rules.Kind
kind_of KindFirst = rules.FIRST
kind_of End = rules.END
kind_of Step = rules.STEP
kind_of Cut = rules.CUT

abbrev pub due_of : Due → rules.Due
due_of DueFirst = rules.first
due_of Cutting = rules.cutting
due_of (Leaving kind tick) = rules.leaving (kind_of kind) tick

-- ---- weights

-- of job i at its segment k, begun or not
abbrev pub weight_at : JobSet → (i k : ℕ) → Bool → ℕ
weight_at J i k begun = iflt k (J.segments i) (cond begun (2 * J.priority i k + 2) (2 * J.base i + 1)) 0

-- the time of segment k of job i, by the number of its first segment
abbrev pub time_at : (w : Jobs) (times : List ℕ) → (i k : ℕ) → ℕ
time_at w times i k = get_or times (first_of w i + k) 0

-- by END where the job has no segment k
abbrev pub leave_kind_at : JobSet → (i k : ℕ) → Kind
leave_kind_at J i k = cond (ltb k (J.segments i)) Step End

-- ---- where a job stands

-- where there is no such job
abbrev pub no_standing : Standing
no_standing = record { segment = 0; rest = 0 }

-- where a run stands: the jobs' standings and keys, how many are released, the job that had the last tick, what is left of it, and what is due
pub record State : Type 0 where
  pub job : List Standing
  pub key : List ℕ
  pub released : ℕ
  pub running : ℕ
  pub left : ℕ
  pub due : Due

-- as the code holds it, in two values
abbrev pub state_of : Standings → Processor → State
state_of s p = record {
  job = s.job;
  key = s.key;
  released = p.released;
  running = p.running;
  left = p.left;
  due = p.due;
}

-- the processor before any job has begun
abbrev pub idle : Jobs → Processor
idle w = record { released = 0; running = (set_of w).jobs; left = 0; due = DueFirst }

-- job i's present segment, and what is left of that
abbrev pub segment_in : State → ℕ → ℕ
segment_in s i = (get_or s.job i no_standing).segment

abbrev pub rest_in : State → ℕ → ℕ
rest_in s i = (get_or s.job i no_standing).rest

-- ---- the job that is dispatched

-- a job, or what stands for none
abbrev pub job_or : (none : ℕ) → Option ℕ → ℕ
job_or none None = none
job_or none (Some d) = d

-- ---- the steps of a tick; w is the job set as it is held

-- 1. the running segment ends
unfoldable pub end_step : (w : Jobs) (times : List ℕ) → (tick : ℕ) → State → State
end_step w times tick s =
    let j = s.running in
    let k = segment_in s j + 1 in
    record {
      job = set s.job j (record { segment = k; rest = time_at w times j k });
      key = set s.key j (key_of (weight_at (set_of w) j k true) j);
      released = s.released;
      running = (set_of w).jobs;
      left = 0;
      due = Leaving (leave_kind_at (set_of w) j k) tick;
    }

-- 2. the next job in table order is released
unfoldable pub release_step : Jobs → State → State
release_step w s = record {
  job = s.job;
  key = set s.key s.released (key_of (weight_at (set_of w) s.released 0 false) s.released);
  released = s.released + 1;
  running = s.running;
  left = s.left;
  due = s.due;
}

-- 3. another job than the running one is dispatched: what is left of the running one is kept
unfoldable pub dispatch_step : Jobs → ℕ → State → State
dispatch_step w d s =
    let job = set s.job s.running (record { segment = segment_in s s.running; rest = s.left }) in
    record {
      job = job;
      key = set s.key d (key_of (weight_at (set_of w) d (segment_in s d) true) d);
      released = s.released;
      running = d;
      left = (get_or job d no_standing).rest;
      due = Cutting;
    }

-- 4. it runs for one tick
unfoldable pub tick_step : State → State
tick_step s = record {
  job = s.job;
  key = s.key;
  released = s.released;
  running = s.running;
  left = s.left - 1;
  due = s.due;
}

-- ---- steps 1 and 2 together

-- a segment ends at this tick
abbrev pub ended : JobSet → State → Bool
ended J s = ltb s.running J.jobs && eqb s.left 0

-- a job is released at this tick
abbrev pub releases : JobSet → (tick : ℕ) → State → Bool
releases J tick s = ltb s.released J.jobs && leb (J.release s.released) tick

-- so many release steps
unfoldable pub released_after : Jobs → (steps : ℕ) → State → State
released_after w zero s = s
released_after w (suc n) s = release_step w (released_after w n s)

-- some of the jobs of the tick are released
pub record Releasing (w : Jobs) (tick : ℕ) (s r : State) : Type 0 where
  pub steps : ℕ
  pub after : r ≡ released_after w steps s
  pub all : (i : ℕ) → i < steps → releases (set_of w) tick (released_after w i s) ≡ true

-- all of them are
pub record Released (w : Jobs) (tick : ℕ) (s r : State) : Type 0 where
  pub some : Releasing w tick s r
  pub done : releases (set_of w) tick r ≡ false

-- the state once the segment that has had its time has ended
abbrev pub settled : (w : Jobs) (times : List ℕ) → (tick : ℕ) → State → State
settled w times tick s = cond (ended (set_of w) s) (end_step w times tick s) s

abbrev pub Settled : (w : Jobs) (times : List ℕ) → (tick : ℕ) → (s r : State) → Type 0
Settled w times tick s r = Released w tick (settled w times tick s) r

-- whether no job from m on has a segment
pub record NoneFrom (J : JobSet) (m : ℕ) (r : Bool) : Type 0 where
  pub yes : r ≡ true → (i : ℕ) → m ≤ i → i < J.jobs → J.segments i ≡ 0
  pub no : r ≡ false → (i : ℕ) × (m ≤ i) × (i < J.jobs) × (0 < J.segments i)

-- a state in which no job has begun
pub record Fresh (w : Jobs) (times : List ℕ) (s : State) : Type 0 where
  pub jobs : length s.job ≡ 32
  pub segment : (i : ℕ) → segment_in s i ≡ 0
  pub rest : (i : ℕ) → i < 32 → rest_in s i ≡ time_at w times i 0
  pub key : (i : ℕ) → get_or s.key i 0 ≡ 0
  pub keys : length s.key ≡ 32
  pub released : s.released ≡ 0
  pub running : s.running ≡ (set_of w).jobs
  pub due : s.due ≡ DueFirst

-- ---- the words of the switches

abbrev pub four_words : Kind → (tick job segment : ℕ) → List ℕ
four_words kind tick job segment = kind_number (kind_of kind) ∷ tick ∷ job ∷ segment ∷ []

abbrev pub last_words : Due → List ℕ
last_words DueFirst = []
last_words Cutting = []
last_words (Leaving kind tick) = four_words kind tick nothing nothing

abbrev pub last_count : Due → ℕ
last_count DueFirst = 0
last_count Cutting = 0
last_count (Leaving kind tick) = 1

abbrev pub note_words : Due → (tick d k : ℕ) → List ℕ
note_words DueFirst tick d k = four_words KindFirst tick d k
note_words Cutting tick d k = four_words Cut tick d k
note_words (Leaving kind left) tick d k = four_words kind left d k

-- a log with n switches more, whose words are this row, as far as there is room
pub record Appended (old new : Log) (n : ℕ) (row : List ℕ) : Type 0 where
  pub lent : new.words.ghost_name ≡ old.words.ghost_name
  pub count : new.count ≡ old.count + n
  pub words : new.words.now ≡ sets old.words.now (4 * old.count) row

-- ---- a run

-- what a run is given: an accepted table's job set, and one time per segment within its bounds
pub record Runs (w : Jobs) (times : List ℕ) : Type 0 where
  pub loaded : Loaded w
  pub within : Within (set_of w) (time_in (set_of w) times)

-- the log of the run stands at the start of the lent words, as far as there is room, and its switches are counted
pub record Logged (w : Jobs) (times before after : List ℕ) (count : ℕ) : Type 0 where
  pub words : after ≡ sets before 0 (log_words (set_of w) (run_of (set_of w) (time_in (set_of w) times)))
  pub switches : count ≡ length (run_of (set_of w) (time_in (set_of w) times))
