-- The operators where their operands are bytes.
use Rattle.std.specs.Prelude.{ℕ, Bool, false, cond, List, [], ◌∷◌, ltb, length, Result}
use Rattle.refusals.specs.Meaning.{Numbers, none, refused, after, replied, VALUE}
use Rattle.refusals.specs.declared.Refusal.{Refusal}
use Rattle.fields.specs.Meaning.{first_above}
use Rattle.answers.specs.declared.Answer.{Answer}
use Rattle.answers.specs.declared.Answer.TheVariants.{Silent}
use Rattle.answers.specs.declared.operators.One.{One}
use Rattle.answers.specs.declared.operators.Two.{Two}
use Rattle.answers.specs.declared.operators.Two.TheVariants.{Meet, Join, TruthMeet, TruthJoin, Implication, Guard, Priority, Replace}
use Rattle.answers.specs.Meaning.{number, from_number, contained, replace, apply_one, apply_two, Reply, succeed, refuse_answer}

-- "Where an entry point takes them as bytes or numbers, the first above 3 is VALUE, place its index among the operands
-- (x, p, q for replace)."
unfoldable pub operand_fault : List ℕ → Numbers
operand_fault operands =
    cond (ltb (first_above 3 operands) (length operands)) (refused VALUE (first_above 3 operands)) none

abbrev pub answer_after : Numbers → Answer → Reply
answer_after check a = after check refuse_answer (succeed a)

unfoldable pub one_of : One → ℕ → Reply
one_of operator p = answer_after (operand_fault (p ∷ [])) (apply_one operator (from_number p))

-- "(x, p, q for replace)": the answer that is replaced is an operand, and the first one.
abbrev pub operands_of : Two → ℕ → ℕ → List ℕ
operands_of Meet p q = p ∷ q ∷ []
operands_of Join p q = p ∷ q ∷ []
operands_of TruthMeet p q = p ∷ q ∷ []
operands_of TruthJoin p q = p ∷ q ∷ []
operands_of Implication p q = p ∷ q ∷ []
operands_of Guard p q = p ∷ q ∷ []
operands_of Priority p q = p ∷ q ∷ []
operands_of (Replace x) p q = number x ∷ p ∷ q ∷ []

unfoldable pub two_of : Two → ℕ → ℕ → Reply
two_of operator p q = answer_after (operand_fault (operands_of operator p q)) (apply_two operator (from_number p) (from_number q))

unfoldable pub replace_of : ℕ → ℕ → ℕ → Reply
replace_of x p q = answer_after (operand_fault (x ∷ p ∷ q ∷ [])) (replace (from_number x) (from_number p) (from_number q))

-- What contained-in replies: in a refusal false.
pub record Related : Type 0 where
  pub refusal : Numbers
  pub contained : Bool

abbrev pub relate : Bool → Related
relate b = record { refusal = none; contained = b }

abbrev pub refuse_related : Numbers → Related
refuse_related n = record { refusal = n; contained = false }

-- The same of a result.
abbrev pub related : Result Bool Refusal → Related
related = replied relate refuse_related

abbrev pub related_after : Numbers → Bool → Related
related_after check b = after check refuse_related (relate b)

unfoldable pub contained_of : ℕ → ℕ → Related
contained_of p q = related_after (operand_fault (p ∷ q ∷ [])) (contained (from_number p) (from_number q))
