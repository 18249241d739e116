-- Words in which the laws of the answers are said: orders and their bounds, and operators that keep the information order.
use Rattle.std.specs.Prelude.{◌≡◌, Bool, true, false, ℕ, T}
use Rattle.answers.specs.declared.Answer.{Answer}
use Rattle.answers.specs.declared.Answer.TheVariants.{Silent, Bury, Keep, Clash}
use Rattle.answers.specs.declared.operators.One.{One}
use Rattle.answers.specs.declared.operators.One.TheVariants.{Negate, Turn, Floor, Ceiling}
use Rattle.answers.specs.declared.operators.Two.{Two}
use Rattle.answers.specs.declared.operators.Two.TheVariants.{Meet, Join, TruthMeet, TruthJoin, Implication, Guard, Priority, Replace}
use Rattle.answers.specs.Meaning.{contained, negate, truth_meet, implication}

pub record PartialOrder (le : Answer → Answer → Bool) : Type 0 where
  pub reflexive : (x : Answer) → T (le x x)
  pub transitive : (x y z : Answer) → T (le x y) → T (le y z) → T (le x z)
  pub antisymmetric : (x y : Answer) → T (le x y) → T (le y x) → x ≡ y

-- op gives the greatest answer that stands below both in the order.
pub record Greatest (le : Answer → Answer → Bool) (op : Answer → Answer → Answer) : Type 0 where
  pub left : (x y : Answer) → T (le (op x y) x)
  pub right : (x y : Answer) → T (le (op x y) y)
  pub greatest : (x y z : Answer) → T (le z x) → T (le z y) → T (le z (op x y))

-- The least that stands above both is the greatest below both in the order turned round.
abbrev pub Least : (le : Answer → Answer → Bool) (op : Answer → Answer → Answer) → Type 0
Least le op = Greatest (λ x y. le y x) op

-- Operands that say more get an answer that says more.
abbrev pub Grows1 : (Answer → Answer) → Type 0
Grows1 f = (x y : Answer) → T (contained x y) → T (contained (f x) (f y))

abbrev pub Grows2 : (Answer → Answer → Answer) → Type 0
Grows2 f = (x y u v : Answer) → T (contained x y) → T (contained u v) → T (contained (f x u) (f y v))

-- Which operators are to keep the information order, and which not.
abbrev pub grows1 : One → Bool
grows1 Negate = true
grows1 Turn = false
grows1 Floor = false
grows1 Ceiling = false

abbrev pub replace_grows : Answer → Bool
replace_grows Silent = false
replace_grows Bury = true
replace_grows Keep = true
replace_grows Clash = false

abbrev pub grows2 : Two → Bool
grows2 Meet = true
grows2 Join = true
grows2 TruthMeet = true
grows2 TruthJoin = true
grows2 Implication = false
grows2 Guard = true
grows2 Priority = false
grows2 (Replace x) = replace_grows x

-- "Negation, truth meet and implication .. with the constant bury": what can be written with these, over any operands.
pub data Formula : Type 0 where
  operand : ℕ → Formula
  bury : Formula
  not_of : Formula → Formula
  meet_of : Formula → Formula → Formula
  implied : Formula → Formula → Formula

unfoldable pub value : (ℕ → Answer) → Formula → Answer
value at (operand k) = at k
value at bury = Bury
value at (not_of f) = negate (value at f)
value at (meet_of f g) = truth_meet (value at f) (value at g)
value at (implied f g) = implication (value at f) (value at g)
