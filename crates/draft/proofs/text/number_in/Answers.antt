use Rattle.std.proofs.Common.{rules, ◌∙◌}
use Rattle.std.proofs.lemmas.Iterator.{YieldsList-from_slice}
use Rattle.draft.specs.Laws.Digits.{number_folded, number_missing, number_begins}
use Rattle.draft.proofs.text.number_in.Goals as goal

pub returns-then-is_empty : goal.returns-then-is_empty
returns-then-is_empty c = number_missing _ _ (search rules)

pub returns : goal.returns
returns c =
    number_folded _ c.args.most _ _ _ _ c.args.word.now c.try_fold.ensures.ran (YieldsList-from_slice c.args.word.now c.iter.ensures.rest) (λ n x v q k. search rules)
    ∙ number_begins _ _ (search rules)
