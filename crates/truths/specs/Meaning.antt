-- What a test may be: a set of truths.
use Rattle.std.specs.Prelude.{Bool, true, false, ◌&&◌, ◌||◌, List, [], ◌∷◌, ◌++◌, eqb}
use Rattle.answers.specs.declared.Answer.{Answer}
use Rattle.answers.specs.declared.Answer.TheVariants.{Silent}
use Rattle.answers.specs.Meaning.{number}
use Rattle.codes.specs.declared.Joint.{Joint}
use Rattle.codes.specs.declared.Joint.TheVariants.{And, Or}
pub use Rattle.sets.specs.Meaning.{truth_number, truth_set, truths_in}

-- "41 and; 42 or"
abbrev pub combine : Joint → Bool → Bool → Bool
combine And t u = t && u
combine Or t u = t || u

-- "48 to 51: the policy that follows answers code-48"
abbrev pub answered : Answer → Answer → Bool
answered wanted p = eqb (number p) (number wanted)

-- "24 when: a test, then a policy, silent where the test is false", on sets: silent where the test may be false, and the policy's
-- answers where it may be true.
abbrev pub whenever : List Bool → List Answer → List Answer
whenever [] ps = []
whenever (false ∷ ts) ps = Silent ∷ whenever ts ps
whenever (true ∷ ts) ps = ps ++ whenever ts ps
