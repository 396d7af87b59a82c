use Rattle.std.proofs.Common.{refl}
use Rattle.draft.specs.Laws.Packs.{zeros}
use Rattle.draft.specs.Laws.Reading.{holds_start}
use Rattle.draft.proofs.draft.Draft.new.Goals as goal

pub returns : goal.returns
returns c = holds_start _ c.new.ensures refl (zeros 4096) refl refl (rw c.new-2.ensures)
