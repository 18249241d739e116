-- The operators: the laws of the answers that document 01 names, as they are proved in answers.
use Prim.Native.Nat.{ℕ, ◌≤◌}
use mathlib.Core.Path.{◌≡◌}
use mathlib.Core.Logic.{◌↔◌}
use lib.Dec.{T}
use Rattle.answers.specs.declared.Answer.{Answer}
use Rattle.answers.specs.declared.Answer.TheVariants.{Bury, Keep, Clash}
use Rattle.answers.specs.declared.operators.One.{One}
use Rattle.answers.specs.declared.operators.Two.{Two}
use Rattle.answers.specs.Meaning.{number, from_number, contained, below, meet, join, truth_meet, truth_join, negate, turn, replace, apply_one, apply_two}
use Rattle.answers.specs.Orders.{PartialOrder, Greatest, Least, Grows1, Grows2, grows1, grows2, Formula, value}
use Rattle.answers.proofs.Claims as claims
use Rattle.answers.proofs.Laws as laws

-- "0 silent, 1 bury, 2 keep, 3 clash": an answer is the one with its number, and a number up to 3 that of its answer.
pub number_from : (a : Answer) → from_number (number a) ≡ a
number_from = claims.number_from

pub from_number_lem : (n : ℕ) → n ≤ 3 → number (from_number n) ≡ n
from_number_lem = claims.from_number_lem

-- Contained-in is an order: meet is the greatest answer contained in both, join the least that contains both.
pub contained-order : PartialOrder contained
contained-order = laws.contained-order

pub meet-greatest : Greatest contained meet
meet-greatest = laws.meet-greatest

pub join-least : Least contained join
join-least = laws.join-least

-- So is the truth order, with its meet and join.
pub below-order : PartialOrder below
below-order = laws.below-order

pub truth_meet-greatest : Greatest below truth_meet
truth_meet-greatest = laws.truth_meet-greatest

pub truth_join-least : Least below truth_join
truth_join-least = laws.truth_join-least

-- Negate undoes itself, and so do four turns.
pub negate_twice : (x : Answer) → negate (negate x) ≡ x
negate_twice = laws.negate_twice

pub turn-four : (x : Answer) → turn (turn (turn (turn x))) ≡ x
turn-four = laws.turn-four

-- Which operators keep the information order, exactly.
pub one_grows : (o : One) → T (grows1 o) ↔ Grows1 (apply_one o)
one_grows = laws.one_grows

pub two-grows : (o : Two) → T (grows2 o) ↔ Grows2 (apply_two o)
two-grows = laws.two-grows

-- Two lines of 001 do not hold: negation, truth meet and implication with bury cannot give clash, and replacing is not as encoded there.
pub formula_clashless : (at : ℕ → Answer) → ((k : ℕ) → at k ≡ Clash → ⊥) → (f : Formula) → value at f ≡ Clash → ⊥
formula_clashless = laws.formula_clashless

pub replace_encoding : (truth_join Bury (truth_meet (negate (truth_join Bury (negate Bury))) Keep) ≡ Bury) × (replace Bury Bury Keep ≡ Keep)
replace_encoding = laws.replace_encoding
