use mathlib.Core.Path.{◌≡◌, refl}
use mathlib.Core.List.{List, [], ◌∷◌}
use Prim.Native.Nat.{ℕ}
use denote.Enum.Declared.{tag_of}
use types.Run.{OneOf, miss}
use Rattle.nodes.specs.declared.Node.{Node}
use Rattle.nodes.specs.declared.Node.TheVariants.{Constant, Negate, Turn, Meet, Join, Column, Foreign}
use Rattle.nodes.specs.Meaning.{past}
use Rattle.nodes.specs.contracts.Node.{the_type}
use Rattle.std.proofs.Common.{rules}
use Rattle.nodes.proofs.Passing.{past-column}
use Rattle.nodes.proofs.past.Goals as goal

other : (node : Node) (nodes : List ℕ) (from : ℕ) → OneOf (0 ∷ 1 ∷ 2 ∷ 3 ∷ 4 ∷ 6 ∷ []) (tag_of the_type node) → from ≡ past node nodes from
unfolding past
other (Constant a) nodes from h = refl
other Negate nodes from h = refl
other Turn nodes from h = refl
other Meet nodes from h = refl
other Join nodes from h = refl
other (Column k) nodes from h = absurd (miss (0 ∷ 1 ∷ 2 ∷ 3 ∷ 4 ∷ 6 ∷ []) 5 tt h)
other Foreign nodes from h = refl

pub returns-in-Column : goal.returns-in-Column
returns-in-Column c = search (rules, past-column)

pub returns-in_default : goal.returns-in_default
returns-in_default c = search (rules, other)
