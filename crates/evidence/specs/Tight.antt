-- Each promise leaves one answer: for every public function, two results that keep its promise for the same call are equal. Most promises are equations
-- (`equation_once`); the others follow by name.
use Rattle.kernel.specs.declared.jobs.Jobs.{Jobs}
use Rattle.std.specs.Prelude.{ℕ, ◌≤◌, ◌<◌, ◌≡◌, List, length, Option, Result}
use Rattle.std.proofs.Common.{sym, ap, ◌∙◌}
use Rattle.std.specs.Result.{result_unwrap_or}
use Rattle.std.specs.Borrow.{Bor}
use Rattle.table.specs.Part.{Lies}
use Rattle.table.specs.declared.Table.{Table}
use Rattle.table.proofs.Parts.{lies_once}
use Rattle.kernel.specs.Rules.{JobSet}
use Rattle.kernel.specs.Code.{Logged}
use Rattle.kernel.specs.Laws.Tests.{split}
use Rattle.jobset.specs.Load.{Laid, laid_once}
use Rattle.orders.specs.Orders.{size}
use Rattle.orders.specs.Laws.Walk.{the_tree}
use Rattle.walk.specs.Tree.{room_of, Walked}
use Rattle.walk.specs.declared.counts.Counts.{Counts}
use Rattle.services.specs.Refusals.{number_of}
use Rattle.services.specs.Replay.{ReplayPromise}
use Rattle.services.specs.Judge.{JudgePromise}
use Rattle.services.specs.Tree.{TreePromise}
use Rattle.services.specs.declared.refusal.Refusal.{Refusal}
use Rattle.services.proofs.Once.{same, replay_once, judge_once, tree_once}
use Rattle.vlodenka.specs.Answers.{counts_of, Replays, Judges, Draws, Places}

-- Table::new, Table::read, Table::extent; u32::from of a Fault, a Kind or a Refusal; services::number_of; Jobs::*, Accepted::ready_key, Accepted::total_segments, Accepted::leave_kind, words::write; lines::listing
pub equation_once : {A : Type 0} {r s x : A} → r ≡ x → s ≡ x → r ≡ s
equation_once p q = p ∙ sym q

-- Table::part: the same place and the same bytes
pub table_part : (bytes r s : Bor (List ℕ)) (start : ℕ) (part : List ℕ) → Lies bytes r start part → Lies bytes s start part → (r.ref_ptr ≡ s.ref_ptr) × (r.now ≡ s.now)
table_part = lies_once

-- kernel::run
pub kernel_run : (w : Jobs) (times before after more : List ℕ) (r s : ℕ) → Logged w times before after r → Logged w times before more s → (r ≡ s) × (after ≡ more)
kernel_run w times before after more r s A B = (equation_once A.switches B.switches, equation_once A.words B.words)

-- jobset::load
pub jobset_load : (t : Table) (r s : Jobs) → Laid t r → Laid t s → r ≡ s
jobset_load = laid_once

-- walk::tree
pub walk_tree : (J : JobSet) (before after more : List ℕ) (r s : Option Counts) → Walked J before after r → Walked J before more s → (r ≡ s) × (after ≡ more)
walk_tree J before after more r s A B = split (room_of (length before)) (size (the_tree J))
    (λ (h : room_of (length before) < size (the_tree J)). same (A.large h) (B.large h))
    (λ (h : size (the_tree J) ≤ room_of (length before)). same (A.whole h) (B.whole h))

-- services::replay, judge, tree
pub services_replay : (bytes times before after more : List ℕ) (r s : Result ℕ Refusal) → ReplayPromise bytes times before after r → ReplayPromise bytes times before more s
    → (r ≡ s) × (after ≡ more)
services_replay = replay_once

pub services_judge : (bytes log before after more : List ℕ) (r s : Result (Unit {0}) Refusal) → JudgePromise bytes log before after r → JudgePromise bytes log before more s
    → (r ≡ s) × (after ≡ more)
services_judge = judge_once

pub services_tree : (bytes before after more : List ℕ) (r s : Result Counts Refusal) → TreePromise bytes before after r → TreePromise bytes before more s → (r ≡ s) × (after ≡ more)
services_tree = tree_once

-- ---- the functions for C

pub c_replay : (bytes times before after more : List ℕ) (m n r s : ℕ) → Replays bytes times before after m r → Replays bytes times before more n s
    → (r ≡ s) × (m ≡ n) × (after ≡ more)
c_replay bytes times before after more m n r s (x, A, am, ar) (y, B, bn, bs) =
    let (e, w) = replay_once bytes times before after more x y A B in
    (ar ∙ ap number_of e ∙ sym bs, am ∙ ap (λ (a : Result ℕ Refusal). result_unwrap_or a 0) e ∙ sym bn, w)

pub c_judge : (bytes log before after more : List ℕ) (r s : ℕ) → Judges bytes log before after r → Judges bytes log before more s → (r ≡ s) × (after ≡ more)
c_judge bytes log before after more r s (x, A, ar) (y, B, bs) =
    let (e, w) = judge_once bytes log before after more x y A B in
    (ar ∙ ap number_of e ∙ sym bs, w)

pub c_tree : (bytes before after more : List ℕ) (m n o p r s : ℕ) → Draws bytes before after m o r → Draws bytes before more n p s
    → (r ≡ s) × (m ≡ n) × (o ≡ p) × (after ≡ more)
c_tree bytes before after more m n o p r s (x, A, am, ao, ar) (y, B, bn, bp, bs) =
    let (e, w) = tree_once bytes before after more x y A B in (
      ar ∙ ap number_of e ∙ sym bs,
      am ∙ ap (λ (a : Result Counts Refusal). (counts_of a).nodes) e ∙ sym bn,
      ao ∙ ap (λ (a : Result Counts Refusal). (counts_of a).orders) e ∙ sym bp,
      w,
    )

pub c_part : (bytes : List ℕ) (job a b m n : ℕ) → Places bytes job a m → Places bytes job b n → (a ≡ b) × (m ≡ n)
c_part bytes job a b m n A B = (equation_once A.0 B.0, equation_once A.1 B.1)
