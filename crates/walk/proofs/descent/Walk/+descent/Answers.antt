-- The descent: what each call asks, and what each of the four functions ensures.
use Rattle.std.proofs.Common.{rules, arith, refl}
use Rattle.walk.proofs.Hanging.{hung_past, hung_last, hang_fits, hang_grows, hung_job}
use Rattle.walk.proofs.Growing.{grown_none, early_fits, grow_leaves, grown_left, grow_cuts, grown_cut}
use Rattle.walk.proofs.Turn.{turn_span, turn_last, turn_less, turn_hang, turn_more}
use Rattle.walk.proofs.Leaving.{segment_small, leave_ended, leave_starts, left_all}
use Rattle.walk.proofs.Cutting.{cut_hangs, cut_all}
use Rattle.walk.proofs.descent.Walk.+descent.Goals as goal

pub cut_off-hang-requires : goal.cut_off-hang-requires
cut_off-hang-requires t c = search (rules, cut_hangs)

pub cut_off-returns : goal.cut_off-returns
cut_off-returns t c = search (rules, cut_all)

pub grow-returns-then-depth-eq0 : goal.grow-returns-then-depth-eq0
grow-returns-then-depth-eq0 t c = search (rules, grown_none)

pub grow-overflow_add-early : goal.grow-overflow_add-early
grow-overflow_add-early t c = omega (arith, early_fits c.requires)

pub grow-leave-requires : goal.grow-leave-requires
grow-leave-requires t c = (
  omega arith,
  grow_leaves c.requires (omega arith) refl refl c.by-known.ensures.first c.by-known.ensures.released c.weight.ensures c.above-latest.ensures,
)

pub grow-returns-else-latest-late : goal.grow-returns-else-latest-late
grow-returns-else-latest-late t c =
    grown_left c.requires (omega arith) refl refl c.by-known.ensures.first c.by-known.ensures.released c.weight.ensures c.above-latest.ensures
    c.leave.ensures (omega arith)

pub grow-cut_off-requires : goal.grow-cut_off-requires
grow-cut_off-requires t c = (
  omega arith,
  grow_cuts c.requires (omega arith) refl refl c.by-known.ensures.first c.by-known.ensures.released c.weight.ensures c.above-latest.ensures
      c.leave.ensures (omega arith),
)

pub grow-returns-then-latest-late : goal.grow-returns-then-latest-late
grow-returns-then-latest-late t c =
    grown_cut c.requires (omega arith) refl refl c.by-known.ensures.first c.by-known.ensures.released c.weight.ensures c.above-latest.ensures
    c.leave.ensures c.cut_off.ensures

pub hang-returns-then-self-at : goal.hang-returns-then-self-at
hang-returns-then-self-at t c = search (rules, hung_past)

pub hang-returns-in_default : goal.hang-returns-in_default
hang-returns-in_default t c = search (rules, hung_last)

pub hang-bounds-self-j : goal.hang-bounds-self-j
hang-bounds-self-j t c = omega (arith, hang_fits c.requires c.in-Some.is)

pub hang-bounds-self-j-2 : goal.hang-bounds-self-j-2
hang-bounds-self-j-2 t c = omega (arith, hang_fits c.requires c.in-Some.is)

pub hang-bounds-self-j-3 : goal.hang-bounds-self-j-3
hang-bounds-self-j-3 t c = omega (arith, hang_fits c.requires c.in-Some.is)

pub hang-grow-requires : goal.hang-grow-requires
hang-grow-requires t c = search (rules, hang_grows)

pub hang-returns : goal.hang-returns
hang-returns t c = search (rules, hung_job)

pub leave-overflow_add-k : goal.leave-overflow_add-k
leave-overflow_add-k t c = omega (arith, segment_small c.requires)

pub leave-first_unfinished-first-requires : goal.leave-first_unfinished-first-requires
leave-first_unfinished-first-requires t c = search (rules, leave_ended)

pub leave-loop-t-init : goal.leave-loop-t-init
leave-loop-t-init t c = search (rules, leave_starts)

pub leave-span-x-requires : goal.leave-span-x-requires
leave-span-x-requires t c = turn_span c.loop-t.invariant (omega arith)

pub leave-hang-requires : goal.leave-hang-requires
leave-hang-requires t c = (omega arith, turn_hang c.loop-t.invariant (omega arith) c.span-x.ensures)

pub leave-overflow_add-t : goal.leave-overflow_add-t
leave-overflow_add-t t c = omega (arith, turn_last c.loop-t.invariant (omega arith) c.span-x.ensures, c.loop-t.invariant.leaves.high.near)

pub leave-loop-t-smaller : goal.leave-loop-t-smaller
leave-loop-t-smaller t c = turn_less c.loop-t.invariant (omega arith) c.span-x.ensures

pub leave-loop-t-preserved : goal.leave-loop-t-preserved
leave-loop-t-preserved t c = turn_more c.loop-t.invariant (omega arith) c.span-x.ensures c.hang.ensures

pub leave-returns : goal.leave-returns
leave-returns t c = search (rules, left_all)
