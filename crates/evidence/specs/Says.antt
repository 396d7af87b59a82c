-- What a service's promise says of a table, from what is computed of it.
use Rattle.std.specs.Prelude.{ℕ, ◌*◌, ◌≤◌, ◌<◌, ◌≡◌, length, Ok}
use Rattle.std.proofs.Common.{arith, ap, subst, ◌∙◌}
use mathlib.Core.List.{List, flatten}
use Rattle.std.proofs.lemmas.List.Edits.{sets}
use Rattle.table.specs.Refusal.{refusal, table_of}
use Rattle.kernel.specs.Rules.{JobSet}
use Rattle.kernel.specs.Laws.Ending.{last_end}
use Rattle.jobset.specs.Laws.Accepted.{accepted_lawful}
use Rattle.orders.specs.Orders.{Forest, size, TreeOf}
use Rattle.orders.specs.Nodes.{tree_words, orders}
use Rattle.orders.specs.Laws.Walk.{the_tree}
use Rattle.services.specs.Refusals.{Declines}
use Rattle.services.specs.Open.{jobs_in, Runnable}
use Rattle.services.specs.Times.{Fit}
use Rattle.services.specs.Replay.{run_in, log_in}
use Rattle.services.specs.Judge.{Gives, segments_in}
use Rattle.services.proofs.Opening.{whole_sound, late_test, in_time}
use Rattle.services.proofs.Grew.{tree_right}
use Rattle.evidence.specs.Samples.{tree, replay, judge, refused, grown, logged, Keeps}

module _ (bytes : List ℕ) where
  abbrev J : JobSet
  J = jobs_in bytes

  abbrev T : Forest
  T = the_tree J

  -- 1 to 4
  pub tree_faulty : (words n : ℕ) → ((refusal bytes).number ≡ 0 → ⊥) → (refusal bytes).number ≡ n → Keeps bytes (tree words) (refused n)
  tree_faulty words n z e before after r l P = let (a, b) = P.faulty z in (subst (Declines r) e a, b)

  module _ (whole : (refusal bytes).number ≡ 0) where
    -- 5
    pub tree_late : (words : ℕ) → J.frame < last_end J → Keeps bytes (tree words) (refused 5)
    tree_late words h before after r l P = P.late whole (late_test bytes whole h)

    module _ (timely : last_end J ≤ J.frame) where
      runnable : Runnable bytes
      runnable = record { whole = whole; timely = in_time bytes whole timely }

      right : TreeOf J T
      right = tree_right J (accepted_lawful (table_of bytes) (whole_sound bytes whole)) timely

      -- 7
      pub tree_large : (words : ℕ) → words < 8 * size T → Keeps bytes (tree words) (refused 7)
      tree_large words h before after r l P = (P.runnable runnable).large T right (omega arith)

      pub tree_grown : (words : ℕ) (nodes : List (List ℕ)) (o : ℕ) → 8 * length nodes ≤ words → length nodes ≤ 1000000 → size T ≡ length nodes
          → orders T ≡ o → tree_words J T ≡ flatten nodes → Keeps bytes (tree words) (grown nodes o)
      tree_grown words nodes o h q e d w before after r l P =
          let (a, b) = (P.runnable runnable).done T right (omega arith) in
          (a ∙ (λ i. Ok (record { nodes = e i; orders = d i })), b ∙ ap (sets before 0) w)

      pub replay_logged : (times : List ℕ) (switches : List (List ℕ)) → length (flatten switches) ≤ 400 → Fit J times → length (run_in J times) ≡ length switches
          → log_in J times ≡ flatten switches → Keeps bytes (replay times) (logged switches)
      replay_logged times switches h F e w before after r l P =
          let (a, b) = (P.runnable runnable).done F (omega (arith, ap length w)) in
          (a ∙ ap Ok e, b ∙ ap (sets before 0) w)

      -- 8
      pub judge_foreign : (log : List ℕ) → segments_in J ≤ 400 → ((times : List ℕ) → Gives J times log → ⊥) → Keeps bytes (judge log) (refused 8)
      judge_foreign log h n before after r l P = (P.runnable runnable).foreign (omega arith) n
