-- The words of a log, and the times of a run as a row of words: paper 01, 'Switches and logs'.
use Rattle.std.specs.Prelude.{ℕ, ◌+◌, cond, List, [], ◌∷◌, ◌++◌, get_or, ltb}
use Rattle.kernel.specs.Rules.{JobSet, Kind, FIRST, END, STEP, CUT, Switch}
use Rattle.kernel.specs.Jobs.{sum}

-- the numbers of the kinds
abbrev pub kind_number : Kind → ℕ
kind_number FIRST = 0
kind_number END = 1
kind_number STEP = 2
kind_number CUT = 3

-- where there is no job and no segment
abbrev pub nothing : ℕ
nothing = 4294967295

-- what is named of a job: nothing where there is none
abbrev pub named : JobSet → (job what : ℕ) → ℕ
named J job what = cond (ltb job J.jobs) what nothing

-- four words a switch: kind, tick, job, segment
abbrev pub switch_words : JobSet → Switch → List ℕ
switch_words J s = kind_number s.kind ∷ s.tick ∷ named J s.job s.job ∷ named J s.job s.segment ∷ []

unfoldable pub log_words : JobSet → List Switch → List ℕ
log_words J [] = []
log_words J (s ∷ ss) = switch_words J s ++ log_words J ss

-- the place of segment k of job i among the segments in table order
abbrev pub place : JobSet → (i k : ℕ) → ℕ
place J i k = sum J.segments i + k

-- one time per segment in table order
abbrev pub time_in : JobSet → List ℕ → ℕ → ℕ → ℕ
time_in J times i k = get_or times (place J i k) 0
