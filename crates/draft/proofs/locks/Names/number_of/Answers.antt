use Rattle.std.proofs.Common.{rules, ◌∙◌, ◌≡◌, ◌<◌, ◌++◌, ◌∷◌, [], length}
use Rattle.draft.specs.Laws.Knowing.{known_length, known_few, known_push, number_found, number_new, number_full}
use Rattle.draft.proofs.locks.Names.number_of.Goals as goal

pub returns-in-Some : goal.returns-in-Some
returns-in-Some c = number_found _ _ (known_few c.args.self.now) _ c.in-Some.ensures

pub returns-in_err-ok : goal.returns-in_err-ok
returns-in_err-ok c =
    let full : length c.args.self.now.names.items ≡ 16 = search rules in
    rw c.from_residual.ensures (number_full _ _ (known_few c.args.self.now) c.in_default.ensures (known_length c.args.self.now ∙ full))

pub returns : goal.returns
returns c =
    let pushed : c.try_push.new.self.items ≡ c.args.self.now.names.items ++ c.args.name ∷ [] = search rules in
    let room : length c.args.self.now.names.items < 16 = search rules in
    number_new _ _ (known_few c.args.self.now) c.in_default.ensures _ _ (rw known_length c.len-k.ensures.value) (rw c.len-k.ensures.value room)
    (known_push c.args.self.now c.try_push.new.self.items c.args.name pushed)
