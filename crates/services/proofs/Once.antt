-- A promise fixes its answer: two answers that keep it are the same.
use Rattle.std.proofs.Common.{◌≡◌, ℕ, zero, suc, ◌<◌, ◌≤◌, List, [], ◌∷◌, length, get_or, drop, Ok, Err, Result, sym, refl, ap, ◌∙◌, ap₂, arith}
use Rattle.std.proofs.Math.Decide.{ℕ_discrete}
use Rattle.table.specs.Refusal.{refusal, table_of}
use Rattle.kernel.specs.Rules.{JobSet}
use Rattle.kernel.specs.Jobs.{sum}
use Rattle.kernel.specs.Log.{time_in}
use Rattle.kernel.specs.Laws.Control.{Lawful}
use Rattle.kernel.specs.Laws.Tests.{split, below}
use Rattle.kernel.specs.Laws.Ending.{last_end}
use Rattle.jobset.specs.Laws.Accepted.{accepted_lawful}
use Rattle.orders.specs.Orders.{size, TreeOf}
use Rattle.orders.specs.Laws.Walk.{the_tree}
use Rattle.services.specs.Open.{jobs_in, Runnable, Answered}
use Rattle.services.specs.Times.{Fit}
use Rattle.services.specs.Replay.{log_in, Replays, ReplayPromise}
use Rattle.services.specs.Judge.{Gives, segments_in, Judges, JudgePromise}
use Rattle.services.specs.Tree.{room_in, Trees, TreePromise}
use Rattle.walk.specs.declared.counts.Counts.{Counts}
use Rattle.services.specs.Refusals.{refusal_number, Declines}
use Rattle.services.specs.declared.refusal.Refusal.{Refusal}
use Rattle.services.proofs.Refused.{one_refusal, declines_once}
use Rattle.services.proofs.Opening.{whole_sound, late_test, in_time, runs_in_frame}
use Rattle.services.proofs.Grew.{tree_right}

-- what equals the same is the same
pub same : {A B : Type 0} {r s x : A} {a b y : B} → (r ≡ x) × (a ≡ y) → (s ≡ x) × (b ≡ y) → (r ≡ s) × (a ≡ b)
same p q = (p.0 ∙ sym q.0, p.1 ∙ sym q.1)

-- and so are two refusals with the same number
pub same_refused : {A B : Type 0} (n : ℕ) {r s : Result A Refusal} {a b y : B} → Declines r n × (a ≡ y) → Declines s n × (b ≡ y) → (r ≡ s) × (a ≡ b)
same_refused n p q = (declines_once n _ _ p.0 q.0, p.1 ∙ sym q.1)

-- two answers to one table were given for the same cause
pub answered_once : (bytes : List ℕ) {D E : ℕ → Type 0} {S T X : Type 0} → ((n : ℕ) → D n → E n → X) → (S → T → X) → Answered bytes D S → Answered bytes E T → X
answered_once bytes d s A B = elim (ℕ_discrete (refusal bytes).number 0) [
  | yes e ↦ split (jobs_in bytes).frame (last_end (jobs_in bytes))
      (λ (h : (jobs_in bytes).frame < last_end (jobs_in bytes)). let l = late_test bytes e h in d 5 (A.late e l) (B.late e l))
      (λ (h : last_end (jobs_in bytes) ≤ (jobs_in bytes).frame).
      let R : Runnable bytes = record { whole = e; timely = in_time bytes e h } in s (A.runnable R) (B.runnable R))
  | no n ↦ d (refusal bytes).number (A.faulty n) (B.faulty n)
]

-- ---- whether times fit can be told

-- P can be told: one goes on where it holds, or where it does not
abbrev pub Told : Type 0 → Type 1
Told P = (X : Type 0) → (P → X) → ((P → ⊥) → X) → X

all_told : (P : ℕ → Type 0) → ((i : ℕ) → Told (P i)) → (n : ℕ) → Told ((i : ℕ) → i < n → P i)
all_told P t zero X y x = y (λ i h. absurd (omega arith))
all_told P t (suc n) X y x = all_told P t n X
    (λ a. t n X (λ p. y (below P n a p)) (λ q. x (λ a. q (a n (omega arith)))))
    (λ q. x (λ a. q (λ i h. a i (omega arith))))

both_told : (P Q : Type 0) → Told P → Told Q → Told (P × Q)
both_told P Q p q X y x = p X (λ a. q X (λ b. y (a, b)) (λ n. x (λ c. n c.1))) (λ n. x (λ c. n c.0))

le_told : (a b : ℕ) → Told (a ≤ b)
le_told a b X y x = split b a (λ (h : b < a). x (λ q. omega arith)) (λ (h : a ≤ b). y h)

eq_told : (a b : ℕ) → Told (a ≡ b)
eq_told a b X y x = elim (ℕ_discrete a b) [
  | yes e ↦ y e
  | no n ↦ x n
]

-- each segment's time is within its bounds
abbrev AllWithin : JobSet → List ℕ → Type 0
AllWithin J times = (i : ℕ) → i < J.jobs → (k : ℕ) → k < J.segments i → (J.shortest i k ≤ time_in J times i k) × (time_in J times i k ≤ J.longest i k)

all_within : (J : JobSet) (times : List ℕ) → Told (AllWithin J times)
all_within J times = all_told _ (λ i. all_told _ (λ k. both_told _ _ (le_told _ _) (le_told _ _)) (J.segments i)) J.jobs

pub fit_told : (J : JobSet) (times : List ℕ) → Told (Fit J times)
fit_told J times X y x =
    eq_told (length times) (sum J.segments J.jobs) X
    (λ e. all_within J times X
    (λ a. y (record { count = e; within = record { low = λ i k h q. (a i h k q).0; high = λ i k h q. (a i h k q).1 } }))
    (λ n. x (λ F. n (λ i h k q. (F.within.low i k h q, F.within.high i k h q)))))
    (λ n. x (λ F. n F.count))

-- ---- replay

pub replays_once : (J : JobSet) (times before after more : List ℕ) (r s : Result ℕ Refusal) → Replays times before after r J → Replays times before more s J → (r ≡ s) × (after ≡ more)
replays_once J times before after more r s A B = fit_told J times _
    (λ F. split (length before) (length (log_in J times))
    (λ (h : length before < length (log_in J times)). same_refused 7 (A.small F h) (B.small F h))
    (λ (h : length (log_in J times) ≤ length before). same (A.done F h) (B.done F h)))
    (λ n. same_refused 6 (A.unfit n) (B.unfit n))

pub replay_once : (bytes times before after more : List ℕ) (r s : Result ℕ Refusal) → ReplayPromise bytes times before after r → ReplayPromise bytes times before more s
    → (r ≡ s) × (after ≡ more)
replay_once bytes times before after more r s = answered_once bytes (λ n. same_refused n) (replays_once (jobs_in bytes) times before after more r s)

-- ---- judge

list_told : (l m : List ℕ) → Told (l ≡ m)
list_told [] [] X y x = y refl
list_told [] (b ∷ m) X y x = x (λ e. absurd (omega (arith, ap length e)))
list_told (a ∷ l) [] X y x = x (λ e. absurd (omega (arith, ap length e)))
list_told (a ∷ l) (b ∷ m) X y x = both_told (a ≡ b) (l ≡ m) (eq_told a b) (list_told l m) X
    (λ e. y (ap₂ (λ (c : ℕ) (k : List ℕ). c ∷ k) e.0 e.1))
    (λ n. x (λ e. n (ap (λ (k : List ℕ). get_or k 0 0) e, ap (drop 1) e)))

verdict_told : (r s : Result (Unit {0}) Refusal) → Told (r ≡ s)
verdict_told (Ok a) (Ok b) X y x = y refl
verdict_told (Err e) (Err f) X y x = eq_told (refusal_number e) (refusal_number f) X (λ q. y (ap Err (one_refusal e f q))) (λ n. x (λ q. n cc))
verdict_told (Ok a) (Err f) X y x = x (λ e. cc)
verdict_told (Err e) (Ok b) X y x = x (λ e. cc)

-- were they not the same, no times could give the log, and then they are
pub judges_once : (J : JobSet) (log before after more : List ℕ) (r s : Result (Unit {0}) Refusal) → Judges log before after r J → Judges log before more s J → (r ≡ s) × (after ≡ more)
judges_once J log before after more r s A B = split (length before) (segments_in J)
    (λ (h : length before < segments_in J). same_refused 7 (A.small h) (B.small h))
    (λ (h : segments_in J ≤ length before). both_told (r ≡ s) (after ≡ more) (verdict_told r s) (list_told after more) _ (λ e. e) (λ n.
    let none : (times : List ℕ) → Gives J times log → ⊥ = λ times G. n (same (A.done h times G) (B.done h times G)) in
    absurd (n (same_refused 8 (A.foreign h none) (B.foreign h none)))))

pub judge_once : (bytes log before after more : List ℕ) (r s : Result (Unit {0}) Refusal) → JudgePromise bytes log before after r → JudgePromise bytes log before more s
    → (r ≡ s) × (after ≡ more)
judge_once bytes log before after more r s = answered_once bytes (λ n. same_refused n) (judges_once (jobs_in bytes) log before after more r s)

-- ---- tree

-- where every run ends in the frame there is a tree, and it decides
pub trees_once : (J : JobSet) → Lawful J → last_end J ≤ J.frame → (before after more : List ℕ) (r s : Result Counts Refusal) → Trees before after r J → Trees before more s J
    → (r ≡ s) × (after ≡ more)
trees_once J L h before after more r s A B =
    let R : TreeOf J (the_tree J) = tree_right J L h in
    split (room_in before) (size (the_tree J))
    (λ (q : room_in before < size (the_tree J)). same_refused 7 (A.large (the_tree J) R q) (B.large (the_tree J) R q))
    (λ (q : size (the_tree J) ≤ room_in before). same (A.done (the_tree J) R q) (B.done (the_tree J) R q))

pub tree_once : (bytes before after more : List ℕ) (r s : Result Counts Refusal) → TreePromise bytes before after r → TreePromise bytes before more s → (r ≡ s) × (after ≡ more)
tree_once bytes before after more r s A B = answered_once bytes (λ n. same_refused n) (λ S T. S T) (record {
  faulty = A.faulty;
  late = A.late;
  runnable = λ R. trees_once (jobs_in bytes) (accepted_lawful (table_of bytes) (whole_sound bytes R.whole)) (runs_in_frame bytes R) before after more r s (A.runnable R);
}) B
