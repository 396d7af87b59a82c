-- The eight words of a node.
use Rattle.std.specs.Prelude.{ℕ, Option, List, [], ◌∷◌}
use Rattle.std.specs.Option.{unwrap_or}
use Rattle.kernel.specs.Code.{kind_of}
use Rattle.kernel.specs.Log.{kind_number, nothing}
use Rattle.walk.specs.declared.switches.Switch.{Switch}

abbrev pub row_of : (parent : ℕ) → Switch → (segment : Option ℕ) → List ℕ
row_of parent x segment =
    parent ∷ kind_number (kind_of x.kind) ∷ unwrap_or x.job nothing ∷ unwrap_or segment nothing ∷ x.first ∷ x.last ∷ x.from ∷ x.to ∷ []
