-- The sample tables of paper 01 that are marked P: tables of bytes, calls, and what every answer must be that keeps the service's promise.
use Rattle.std.specs.Prelude.{ℕ, ◌≤◌, ◌≡◌, length, Result, Ok}
use mathlib.Core.List.{List, [], ◌∷◌, ◌++◌, flatten}
use Rattle.std.proofs.lemmas.List.Edits.{sets}
use Rattle.kernel.specs.Log.{nothing}
use Rattle.services.specs.Replay.{ReplayPromise}
use Rattle.services.specs.Judge.{JudgePromise}
use Rattle.services.specs.Tree.{TreePromise}
use Rattle.services.specs.Refusals.{Declines}
use Rattle.services.specs.declared.refusal.Refusal.{Refusal}
use Rattle.walk.specs.declared.counts.Counts.{Counts}

-- ---- tables of bytes; all numbers in them are below 256

abbrev four : ℕ → List ℕ
four n = n ∷ 0 ∷ 0 ∷ 0 ∷ []

-- FR, JB and SG
abbrev pub frame : ℕ → List ℕ
frame ticks = 70 ∷ 82 ∷ four ticks

abbrev job : (release base count : ℕ) → List ℕ
job release base count = 74 ∷ 66 ∷ four release ++ base ∷ count ∷ []

abbrev segment : (shortest longest locks : ℕ) → List ℕ
segment shortest longest locks = 83 ∷ 71 ∷ four shortest ++ four longest ++ locks ∷ 0 ∷ []

-- a job of one segment without locks: release/priority/[shortest,longest]
abbrev pub plain : (release base shortest longest : ℕ) → List ℕ
plain release base shortest longest = job release base 1 ++ segment shortest longest 0

abbrev pub table3 : List ℕ
table3 = frame 10 ++ plain 0 1 2 2

-- tables 4, 5 and 6, by the frame length and the longest time of job 0
abbrev pub table4 : (ticks longest : ℕ) → List ℕ
table4 ticks longest = frame ticks ++ plain 0 1 2 longest ++ plain 3 2 1 1

abbrev pub table7 : List ℕ
table7 = frame 10 ++ plain 0 1 1 1 ++ plain 0 2 2 4 ++ plain 3 3 1 1

-- lock 0 is bit 0
abbrev pub table8 : List ℕ
table8 = frame 10 ++ job 0 1 3 ++ segment 1 1 0 ++ segment 3 3 1 ++ segment 1 1 0 ++ job 2 2 1 ++ segment 1 1 1 ++ plain 3 3 1 1

-- ---- calls and answers

-- with so many words lent; replay and judge have room
pub data Call : Type 0 where
  tree : (words : ℕ) → Call
  replay : (times : List ℕ) → Call
  judge : (log : List ℕ) → Call

-- a refusal; the words of each node and how many orders there are; the words of each switch
pub data Answer : Type 0 where
  refused : ℕ → Answer
  grown : (nodes : List (List ℕ)) → (orders : ℕ) → Answer
  logged : (switches : List (List ℕ)) → Answer

-- every answer that keeps the promise is this one, and leaves these words
abbrev pub Keeps : List ℕ → Call → Answer → Type 0
Keeps bytes (tree words) (refused n) = (before after : List ℕ) (r : Result Counts Refusal) → length before ≡ words → TreePromise bytes before after r
    → Declines r n × (after ≡ before)
Keeps bytes (tree words) (grown nodes orders) = (before after : List ℕ) (r : Result Counts Refusal) → length before ≡ words → TreePromise bytes before after r
    → (r ≡ Ok (record { nodes = length nodes; orders = orders })) × (after ≡ sets before 0 (flatten nodes))
Keeps bytes (tree words) (logged switches) = ⊥
Keeps bytes (replay times) (refused n) = (before after : List ℕ) (r : Result ℕ Refusal) → 400 ≤ length before → ReplayPromise bytes times before after r
    → Declines r n × (after ≡ before)
Keeps bytes (replay times) (grown nodes orders) = ⊥
Keeps bytes (replay times) (logged switches) = (before after : List ℕ) (r : Result ℕ Refusal) → 400 ≤ length before → ReplayPromise bytes times before after r
    → (r ≡ Ok (length switches)) × (after ≡ sets before 0 (flatten switches))
Keeps bytes (judge log) (refused n) = (before after : List ℕ) (r : Result (Unit {0}) Refusal) → 400 ≤ length before → JudgePromise bytes log before after r
    → Declines r n × (after ≡ before)
Keeps bytes (judge log) (grown nodes orders) = ⊥
Keeps bytes (judge log) (logged switches) = ⊥

-- a sample by its number in the paper
pub record Sample : Type 0 where
  pub number : ℕ
  pub table : List ℕ
  pub call : Call
  pub answer : Answer

abbrev sample : ℕ → List ℕ → Call → Answer → Sample
sample number table call answer = record { number = number; table = table; call = call; answer = answer }

abbrev pub Holds : Sample → Type 0
Holds s = Keeps s.table s.call s.answer

-- ---- the samples

-- of a tree: parent, kind, job, segment, earliest and latest leaving, earliest and latest start
abbrev pub nodes3 : List (List ℕ)
nodes3 =
    (nothing ∷ 0 ∷ 0 ∷ 0 ∷ 0 ∷ 0 ∷ 0 ∷ 0 ∷ [])
    ∷ (0 ∷ 1 ∷ nothing ∷ nothing ∷ 2 ∷ 2 ∷ 2 ∷ 2 ∷ []) ∷ []

abbrev pub nodes4 : List (List ℕ)
nodes4 =
    (nothing ∷ 0 ∷ 0 ∷ 0 ∷ 0 ∷ 0 ∷ 0 ∷ 0 ∷ [])
    ∷ (0 ∷ 1 ∷ 1 ∷ 0 ∷ 2 ∷ 3 ∷ 3 ∷ 3 ∷ [])
    ∷ (1 ∷ 1 ∷ nothing ∷ nothing ∷ 4 ∷ 4 ∷ 4 ∷ 4 ∷ [])
    ∷ (0 ∷ 3 ∷ 1 ∷ 0 ∷ 3 ∷ 3 ∷ 3 ∷ 3 ∷ [])
    ∷ (3 ∷ 1 ∷ 0 ∷ 0 ∷ 4 ∷ 4 ∷ 4 ∷ 4 ∷ [])
    ∷ (4 ∷ 1 ∷ nothing ∷ nothing ∷ 5 ∷ 5 ∷ 5 ∷ 5 ∷ []) ∷ []

abbrev pub nodes5 : List (List ℕ)
nodes5 =
    (nothing ∷ 0 ∷ 0 ∷ 0 ∷ 0 ∷ 0 ∷ 0 ∷ 0 ∷ [])
    ∷ (0 ∷ 1 ∷ 1 ∷ 0 ∷ 2 ∷ 3 ∷ 3 ∷ 3 ∷ [])
    ∷ (1 ∷ 1 ∷ nothing ∷ nothing ∷ 4 ∷ 4 ∷ 4 ∷ 4 ∷ []) ∷ []

abbrev pub nodes7 : List (List ℕ)
nodes7 =
    (nothing ∷ 0 ∷ 1 ∷ 0 ∷ 0 ∷ 0 ∷ 0 ∷ 0 ∷ [])
    ∷ (0 ∷ 1 ∷ 0 ∷ 0 ∷ 2 ∷ 2 ∷ 2 ∷ 2 ∷ [])
    ∷ (1 ∷ 1 ∷ 2 ∷ 0 ∷ 3 ∷ 3 ∷ 3 ∷ 3 ∷ [])
    ∷ (2 ∷ 1 ∷ nothing ∷ nothing ∷ 4 ∷ 4 ∷ 4 ∷ 4 ∷ [])
    ∷ (0 ∷ 1 ∷ 2 ∷ 0 ∷ 3 ∷ 3 ∷ 3 ∷ 3 ∷ [])
    ∷ (4 ∷ 1 ∷ 0 ∷ 0 ∷ 4 ∷ 4 ∷ 4 ∷ 4 ∷ [])
    ∷ (5 ∷ 1 ∷ nothing ∷ nothing ∷ 5 ∷ 5 ∷ 5 ∷ 5 ∷ [])
    ∷ (0 ∷ 3 ∷ 2 ∷ 0 ∷ 3 ∷ 3 ∷ 3 ∷ 3 ∷ [])
    ∷ (7 ∷ 1 ∷ 1 ∷ 0 ∷ 4 ∷ 4 ∷ 4 ∷ 4 ∷ [])
    ∷ (8 ∷ 1 ∷ 0 ∷ 0 ∷ 5 ∷ 5 ∷ 5 ∷ 5 ∷ [])
    ∷ (9 ∷ 1 ∷ nothing ∷ nothing ∷ 6 ∷ 6 ∷ 6 ∷ 6 ∷ []) ∷ []

abbrev pub nodes8 : List (List ℕ)
nodes8 =
    (nothing ∷ 0 ∷ 0 ∷ 0 ∷ 0 ∷ 0 ∷ 0 ∷ 0 ∷ [])
    ∷ (0 ∷ 2 ∷ 0 ∷ 1 ∷ 1 ∷ 1 ∷ 1 ∷ 1 ∷ [])
    ∷ (1 ∷ 2 ∷ 2 ∷ 0 ∷ 4 ∷ 4 ∷ 4 ∷ 4 ∷ [])
    ∷ (2 ∷ 1 ∷ 1 ∷ 0 ∷ 5 ∷ 5 ∷ 5 ∷ 5 ∷ [])
    ∷ (3 ∷ 1 ∷ 0 ∷ 2 ∷ 6 ∷ 6 ∷ 6 ∷ 6 ∷ [])
    ∷ (4 ∷ 1 ∷ nothing ∷ nothing ∷ 7 ∷ 7 ∷ 7 ∷ 7 ∷ []) ∷ []

-- of a log: kind, tick, job, segment
abbrev pub log_short : List (List ℕ)
log_short = (0 ∷ 0 ∷ 0 ∷ 0 ∷ []) ∷ (1 ∷ 2 ∷ 1 ∷ 0 ∷ []) ∷ (1 ∷ 4 ∷ nothing ∷ nothing ∷ []) ∷ []

abbrev pub log_long : List (List ℕ)
log_long = (0 ∷ 0 ∷ 0 ∷ 0 ∷ []) ∷ (3 ∷ 3 ∷ 1 ∷ 0 ∷ []) ∷ (1 ∷ 4 ∷ 0 ∷ 0 ∷ []) ∷ (1 ∷ 5 ∷ nothing ∷ nothing ∷ []) ∷ []

-- the first with its tick 2 made 1
abbrev pub log_wrong : List ℕ
log_wrong = 0 ∷ 0 ∷ 0 ∷ 0 ∷ 1 ∷ 1 ∷ 1 ∷ 0 ∷ 1 ∷ 4 ∷ nothing ∷ nothing ∷ []

-- room for 2,048 nodes
abbrev pub room : ℕ
room = 16384

abbrev pub samples : List Sample
samples =
    sample 1 [] (tree room) (refused 1)
    ∷ sample 2 (frame 10) (tree room) (refused 4)
    ∷ sample 3 table3 (tree room) (grown nodes3 1)
    ∷ sample 4 (table4 10 4) (tree room) (grown nodes4 2)
    ∷ sample 5 (table4 10 3) (tree room) (grown nodes5 1)
    ∷ sample 6 (table4 5 4) (tree room) (grown nodes4 2)
    ∷ sample 6 (table4 4 4) (tree room) (refused 5)
    ∷ sample 7 table7 (tree room) (grown nodes7 3)
    ∷ sample 8 table8 (tree room) (grown nodes8 1)
    ∷ sample 9 (table4 10 4) (tree 48) (grown nodes4 2)
    ∷ sample 9 (table4 10 4) (tree 47) (refused 7)
    ∷ sample 10 (table4 10 4) (replay (2 ∷ 1 ∷ [])) (logged log_short)
    ∷ sample 10 (table4 10 4) (replay (4 ∷ 1 ∷ [])) (logged log_long)
    ∷ sample 11 (table4 10 4) (judge log_wrong) (refused 8)
    ∷ []
