-- What the private functions say among themselves. Nothing here has to be believed: the laws tie it to the formula.
use Rattle.std.specs.Prelude.{ℕ, ◌+◌, ◌%◌, List, [], ◌∷◌, ◌++◌, length}
use Rattle.answers.specs.declared.Answer.{Answer}
use Rattle.answers.specs.declared.Answer.TheVariants.{Silent, Bury, Keep, Clash}
use Rattle.formula.specs.Meaning.{turned}

-- the parts of a selector: the turns of its second column, and what it ends with (nobody asks for silent)
abbrev pub second_turns : ℕ → Answer → ℕ
second_turns k Silent = (k + 3) % 4
second_turns k Bury = (k + 3) % 4
second_turns k Keep = (k + 3) % 4
second_turns k Clash = k

abbrev pub ending : Answer → List ℕ
ending Silent = 6 ∷ 4 ∷ []
ending Bury = 6 ∷ 4 ∷ []
ending Keep = 6 ∷ []
ending Clash = 4 ∷ 6 ∷ []

-- a selector whose first column gets k turns, and how many nodes it has
unfoldable pub selector_with : ℕ → ℕ → Answer → List ℕ
selector_with column k j = turned column k ++ (turned column (second_turns k j) ++ ending j)

abbrev pub size_with : ℕ → Answer → ℕ
size_with k j = 2 + k + second_turns k j + length (ending j)
