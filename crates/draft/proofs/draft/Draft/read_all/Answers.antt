use Rattle.std.proofs.Common.{rules, arith, refl, ℕ, Bool, Bor, ◌≡◌, ◌≤◌, length}
use Rattle.std.proofs.lemmas.List.{length_push}
use Rattle.std.proofs.lemmas.Result.{err_from_is_err_and}
use Rattle.std.proofs.lemmas.Iterator.Consumers.{YieldsList-turn, YieldsList-end}
use Rattle.draft.specs.Words.{lines_of}
use Rattle.draft.specs.Laws.TextLines.{line_items, go_on, stops, ends}
use Rattle.std.proofs.lemmas.Iterator.{YieldsList}
use Rattle.std.specs.Slice.Iter.{split_steps, split_callee}
use Rattle.std.specs.Fn.{CalledAt}
use Rattle.std.specs.Prelude.{eqb}
use denote.Param.Members.{Mut}
use Rattle.draft.proofs.draft.Draft.read_all.Goals as goal
use Rattle.draft.proofs.draft.Draft.read_all.Goals.{After-into_iter-line-iterator}

-- the loop goes over the lines of the text
items : {g : Mut _ (Bor ℕ × Unit {0}) Bool} (c : After-into_iter-line-iterator)
    → ((x : ℕ) (b : Bool) (q : _) → CalledAt g (split_callee c.split-line-items.result) x b q → (q ≡ split_callee c.split-line-items.result) × (b ≡ eqb x 10))
    → YieldsList (split_steps g) (λ x. x.now) c.into_iter-line-iterator.result (lines_of c.args.text.now)
items c h = line_items _ c.args.text.now c.into_iter-line-iterator.ensures.into_iter_gives c.split-line-items.ensures.rest c.split-line-items.ensures.done refl h

pub loop-line-preserved : goal.loop-line-preserved
loop-line-preserved c =
    let t = YieldsList-turn (items (goal.at.loop-line-preserved c).After-into_iter-line-iterator (λ x b q k. search rules)) c.loop-line.yielded _ c.loop-line.yielded_by _ _ c.in-Some.line c.in-Some.is c.next.ensures.steps in
    rw (length_push c.loop-line.yielded c.in-Some.line)
    (go_on _ _ _ c.loop-line.invariant c.in-Some.line.now t.0 t.1 c.read.new.self (c.in_ok-read.ensures _ c.loop-line.invariant.holds))

pub returns-in_err-read : goal.returns-in_err-read
returns-in_err-read c =
    let t = YieldsList-turn (items (goal.at.returns-in_err-read c).After-into_iter-line-iterator (λ x b q k. search rules)) c.loop-line.yielded _ c.loop-line.yielded_by _ _ c.in-Some.line c.in-Some.is c.next.ensures.steps in
    let p = err_from_is_err_and c.from_residual.result c.from_residual.ensures.1 in
    rw (p.1, p.2) (stops _ _ _ c.loop-line.invariant c.in-Some.line.now t.0 t.1 _ (c.in_err-read.ensures _ c.loop-line.invariant.holds))

pub returns : goal.returns
returns c =
    let t = YieldsList-end (items (goal.at.returns c).After-into_iter-line-iterator (λ x b q k. search rules)) c.loop-line.yielded _ c.loop-line.yielded_by _ _ c.in-None.is c.next.ensures.steps in
    let over : length (lines_of c.args.text.now) ≤ length c.loop-line.yielded = omega (arith, t.1) in
    rw (← ends _ _ _ c.loop-line.invariant over) (c.end.ensures _ c.loop-line.invariant.holds)
