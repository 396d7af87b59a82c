-- The samples hold, computed from the rules.
use Rattle.std.specs.Prelude.{ℕ, zero, suc, ◌+◌, ◌≤◌, ◌<◌, ◌≡◌, refl, get_or}
use Rattle.std.proofs.Common.{arith, sym, ap, ◌∙◌}
use mathlib.Core.List.{List, [], ◌∷◌, flatten, flat_map}
use Rattle.table.specs.Refusal.{refusal, failing, refusal_in, answer, outcome_of}
use Rattle.table.specs.Records.{sized, marked, record_at, ahead, goes_on, read_from, reading_of}
use Rattle.table.specs.Table.{segments_of, jobs_from, frame_of, padded, table_from, recorded}
use Rattle.kernel.specs.Jobs.{largest, sum, user_base, ceiling, ceilings, dispatched_priority, clipped, jobs_of}
use Rattle.kernel.specs.Rules.{JobSet, put, switches, end_segment, reported, run_tick, switch_at, last_switch, best, all_finished}
use Rattle.kernel.specs.Log.{log_words}
use Rattle.kernel.specs.Laws.Tests.{iflt}
use Rattle.kernel.specs.Laws.Places.{put2}
use Rattle.kernel.specs.Laws.Pick.{heaviest, first_above_of, rank, pick, first_open, next, first_above}
use Rattle.kernel.specs.Laws.Control.{leave, mark, weight}
use Rattle.kernel.specs.Laws.Fall.{unbegun}
use Rattle.kernel.specs.Laws.Step.{dispatch, leave_kind_of}
use Rattle.kernel.specs.Laws.Clock.{clock, done_at}
use Rattle.orders.specs.Orders.{size, numbered}
use Rattle.orders.specs.Nodes.{orders}
use Rattle.orders.specs.Laws.Lists.{All}
use Rattle.orders.specs.Laws.Box.{spans, child, leave_child, leave_spans, leaves, cut_child, cuts, children}
use Rattle.orders.specs.Laws.Walk.{hang, following, grow, the_tree}
use Rattle.services.specs.Open.{jobs_in}
use Rattle.services.specs.Times.{Fit}
use Rattle.services.specs.Judge.{Gives}
use Rattle.services.specs.Replay.{log_in}
use Rattle.evidence.specs.Samples.{frame, table3, table4, table7, table8, nodes3, nodes4, nodes5, nodes7, nodes8, log_short, log_long, log_wrong, room, Holds, samples}
use Rattle.evidence.specs.Says.{tree_faulty, tree_late, tree_large, tree_grown, replay_logged, judge_foreign}

-- ---- case 4

abbrev J : JobSet
J = jobs_in (table4 10 4)

-- it has two segments
both : (P : ℕ → ℕ → Type 0) → P 0 0 → P 1 0 → (i k : ℕ) → i < J.jobs → k < J.segments i → P i k
unfolding refusal failing refusal_in answer outcome_of read_from reading_of sized marked record_at ahead goes_on segments_of jobs_from frame_of padded table_from recorded largest sum user_base ceiling ceilings dispatched_priority clipped jobs_of
both P a b zero zero h q = a
both P a b zero (suc k) h q = absurd (omega arith)
both P a b (suc zero) zero h q = b
both P a b (suc zero) (suc k) h q = absurd (omega arith)
both P a b (suc (suc i)) k h q = absurd (omega arith)

fits : (a : ℕ) → 2 ≤ a → a ≤ 4 → Fit J (a ∷ 1 ∷ [])
unfolding refusal failing refusal_in answer outcome_of read_from reading_of sized marked record_at ahead goes_on segments_of jobs_from frame_of padded table_from recorded largest sum user_base ceiling ceilings dispatched_priority clipped jobs_of
fits a h q = record {
  count = refl;
  within = record {
    low = both (λ i k. J.shortest i k ≤ get_or (a ∷ 1 ∷ []) (sum J.segments i + k) 0) h (omega arith);
    high = both (λ i k. get_or (a ∷ 1 ∷ []) (sum J.segments i + k) 0 ≤ J.longest i k) q (omega arith);
  };
}

-- the tick at which job 0 is left, the second of its log
left_at : (a : ℕ) → get_or (log_in J (a ∷ 1 ∷ [])) 5 0 ≡ 1 → 2 ≤ a → a ≤ 4 → ⊥
unfolding refusal failing refusal_in answer outcome_of read_from reading_of sized marked record_at ahead goes_on segments_of jobs_from frame_of padded table_from recorded largest sum user_base ceiling ceilings dispatched_priority clipped jobs_of put switches end_segment reported run_tick switch_at last_switch best all_finished log_words
left_at zero e h q = omega arith
left_at (suc zero) e h q = omega arith
left_at (suc (suc zero)) e h q = omega (arith, e)
left_at (suc (suc (suc zero))) e h q = omega (arith, e)
left_at (suc (suc (suc (suc zero)))) e h q = omega (arith, e)
left_at (suc (suc (suc (suc (suc a))))) e h q = omega arith

-- no times leave it at tick 1
foreign : (times : List ℕ) → Gives J times log_wrong → ⊥
unfolding refusal failing refusal_in answer outcome_of read_from reading_of sized marked record_at ahead goes_on segments_of jobs_from frame_of padded table_from recorded largest sum user_base ceiling ceilings dispatched_priority clipped jobs_of
foreign [] G = omega (arith, G.fit.count)
foreign (a ∷ []) G = omega (arith, G.fit.count)
foreign (a ∷ b ∷ c ∷ l) G = omega (arith, G.fit.count)
foreign (a ∷ b ∷ []) G =
    let W = G.fit.within in
    let one : b ≡ 1 = omega (arith, W.low 1 0 (omega arith) (omega arith), W.high 1 0 (omega arith) (omega arith)) in
    left_at a (ap (λ (x : ℕ). get_or (log_in J (a ∷ x ∷ [])) 5 0) (sym one) ∙ ap (λ (l : List ℕ). get_or l 5 0) G.same)
    (W.low 0 0 (omega arith) (omega arith)) (W.high 0 0 (omega arith) (omega arith))

-- ---- all of them

pub samples_hold : All Holds samples
unfolding refusal failing refusal_in answer outcome_of read_from reading_of sized marked record_at ahead goes_on segments_of jobs_from frame_of padded table_from recorded largest sum user_base ceiling ceilings dispatched_priority clipped jobs_of iflt heaviest first_above_of rank pick first_open next first_above put put2 leave mark weight dispatch leave_kind_of unbegun spans child leave_child leave_spans leaves cut_child cuts children hang following grow the_tree numbered size orders flat_map flatten switches end_segment reported run_tick switch_at last_switch best all_finished log_words clock done_at
samples_hold = (
  tree_faulty [] room 1 (λ e. omega (arith, e)) refl,
  (
    tree_faulty (frame 10) room 4 (λ e. omega (arith, e)) refl,
    (
      tree_grown table3 refl (omega arith) room nodes3 1 (omega arith) (omega arith) refl refl refl,
      (
        tree_grown (table4 10 4) refl (omega arith) room nodes4 2 (omega arith) (omega arith) refl refl refl,
        (
          tree_grown (table4 10 3) refl (omega arith) room nodes5 1 (omega arith) (omega arith) refl refl refl,
          (
            tree_grown (table4 5 4) refl (omega arith) room nodes4 2 (omega arith) (omega arith) refl refl refl,
            (
              tree_late (table4 4 4) refl room (omega arith),
              (
                tree_grown table7 refl (omega arith) room nodes7 3 (omega arith) (omega arith) refl refl refl,
                (
                  tree_grown table8 refl (omega arith) room nodes8 1 (omega arith) (omega arith) refl refl refl,
                  (
                    tree_grown (table4 10 4) refl (omega arith) 48 nodes4 2 (omega arith) (omega arith) refl refl refl,
                    (
                      tree_large (table4 10 4) refl (omega arith) 47 (omega arith),
                      (
                        replay_logged (table4 10 4) refl (omega arith) (2 ∷ 1 ∷ []) log_short (omega arith) (fits 2 (omega arith) (omega arith)) refl refl,
                        (
                          replay_logged (table4 10 4) refl (omega arith) (4 ∷ 1 ∷ []) log_long (omega arith) (fits 4 (omega arith) (omega arith)) refl refl,
                          (
                            judge_foreign (table4 10 4) refl (omega arith) log_wrong (omega arith) foreign,
                            tt,
                          ),
                        ),
                      ),
                    ),
                  ),
                ),
              ),
            ),
          ),
        ),
      ),
    ),
  ),
)
