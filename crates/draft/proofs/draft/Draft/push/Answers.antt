use Rattle.std.proofs.Common.{rules, refl}
use Rattle.draft.proofs.draft.Draft.push.Goals as goal

pub returns : goal.returns
returns c = record { fits = search rules; made = search rules; lines = rw c.len-at.ensures.value; line = refl; job = refl; names = refl }
