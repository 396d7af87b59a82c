use Rattle.std.proofs.Common.{rules, ◌∙◌, ℕ, List, Bor}
use Rattle.std.proofs.lemmas.Iterator.{YieldsList-from_slice}
use Rattle.std.proofs.lemmas.Iterator.Search.{position_from_yields_List}
use Rattle.draft.specs.Words.{same}
use Rattle.draft.specs.Laws.Knowing.{place_known}
use Rattle.draft.proofs.locks.Names.place_of.Goals as goal

pub returns : goal.returns
returns c =
    position_from_yields_List (λ (n : Bor (List ℕ)). same n.now c.args.name.now) _ _ _ c.position.ensures.ran
    (YieldsList-from_slice c.args.self.now.names.items (rw c.iter.ensures.rest c.as_slice.ensures.value)) (λ x b q k. search rules)
    ∙ place_known c.args.self.now c.args.name.now
