-- The four answers and what the operators make of them.
use Rattle.std.specs.Prelude.{ℕ, zero, suc, Bool, true, false, cond, eqb, Result}
use Rattle.refusals.specs.Meaning.{Numbers, none, refused, replied}
use Rattle.refusals.specs.declared.Refusal.{Refusal}
use Rattle.answers.specs.declared.Answer.{Answer}
use Rattle.answers.specs.declared.Answer.TheVariants.{Silent, Bury, Keep, Clash}
use Rattle.answers.specs.declared.operators.One.{One}
use Rattle.answers.specs.declared.operators.One.TheVariants.{Negate, Turn, Floor, Ceiling}
use Rattle.answers.specs.declared.operators.Two.{Two}
use Rattle.answers.specs.declared.operators.Two.TheVariants.{Meet, Join, TruthMeet, TruthJoin, Implication, Guard, Priority, Replace}

-- "0 silent, 1 bury, 2 keep, 3 clash"
abbrev pub number : Answer → ℕ
number Silent = 0
number Bury = 1
number Keep = 2
number Clash = 3

-- The answer with a number. What is read as an answer is tested to be at most 3 first.
abbrev pub from_number : ℕ → Answer
from_number zero = Silent
from_number (suc zero) = Bury
from_number (suc (suc zero)) = Keep
from_number (suc (suc (suc n))) = Clash

-- "Contained-in: silent is in everything, everything is in clash, bury and keep are not in each other."
abbrev pub contained : Answer → Answer → Bool
contained Silent q = true
contained Bury Silent = false
contained Bury Bury = true
contained Bury Keep = false
contained Bury Clash = true
contained Keep Silent = false
contained Keep Bury = false
contained Keep Keep = true
contained Keep Clash = true
contained Clash Silent = false
contained Clash Bury = false
contained Clash Keep = false
contained Clash Clash = true

-- "Meet is the greatest answer contained in both."
abbrev pub meet : Answer → Answer → Answer
meet Silent q = Silent
meet Bury Silent = Silent
meet Bury Bury = Bury
meet Bury Keep = Silent
meet Bury Clash = Bury
meet Keep Silent = Silent
meet Keep Bury = Silent
meet Keep Keep = Keep
meet Keep Clash = Keep
meet Clash q = q

-- "Join the least that contains both."
abbrev pub join : Answer → Answer → Answer
join Silent q = q
join Bury Silent = Bury
join Bury Bury = Bury
join Bury Keep = Clash
join Bury Clash = Clash
join Keep Silent = Keep
join Keep Bury = Clash
join Keep Keep = Keep
join Keep Clash = Clash
join Clash q = Clash

-- "In 001's truth order bury is least, keep greatest, silent and clash lie between, unrelated."
abbrev pub below : Answer → Answer → Bool
below Bury q = true
below Silent Silent = true
below Silent Bury = false
below Silent Keep = true
below Silent Clash = false
below Clash Silent = false
below Clash Bury = false
below Clash Keep = true
below Clash Clash = true
below Keep Silent = false
below Keep Bury = false
below Keep Keep = true
below Keep Clash = false

-- "So silent and clash have truth meet bury .."
abbrev pub truth_meet : Answer → Answer → Answer
truth_meet Bury q = Bury
truth_meet Silent Silent = Silent
truth_meet Silent Bury = Bury
truth_meet Silent Keep = Silent
truth_meet Silent Clash = Bury
truth_meet Clash Silent = Bury
truth_meet Clash Bury = Bury
truth_meet Clash Keep = Clash
truth_meet Clash Clash = Clash
truth_meet Keep q = q

-- ".. and truth join keep."
abbrev pub truth_join : Answer → Answer → Answer
truth_join Bury q = q
truth_join Silent Silent = Silent
truth_join Silent Bury = Silent
truth_join Silent Keep = Keep
truth_join Silent Clash = Keep
truth_join Clash Silent = Keep
truth_join Clash Bury = Clash
truth_join Clash Keep = Keep
truth_join Clash Clash = Clash
truth_join Keep q = Keep

-- "Negate exchanges bury and keep only."
abbrev pub negate : Answer → Answer
negate Silent = Silent
negate Bury = Keep
negate Keep = Bury
negate Clash = Clash

-- "Turn sends 0 to 1, 1 to 2, 2 to 3, 3 to 0."
abbrev pub turn : Answer → Answer
turn Silent = Bury
turn Bury = Keep
turn Keep = Clash
turn Clash = Silent

-- "Implication p, q: q if p is keep or clash, else keep."
abbrev pub implication : Answer → Answer → Answer
implication Silent q = Keep
implication Bury q = Keep
implication Keep q = q
implication Clash q = q

-- "Guard p, q: q if p is keep or clash, else silent."
abbrev pub guard : Answer → Answer → Answer
guard Silent q = Silent
guard Bury q = Silent
guard Keep q = q
guard Clash q = q

-- "Priority p, q: q if p is silent, else p."
abbrev pub priority : Answer → Answer → Answer
priority Silent q = q
priority Bury q = Bury
priority Keep q = Keep
priority Clash q = Clash

-- "Replace x in p by q: q if p is x, else p."
abbrev pub replace : Answer → Answer → Answer → Answer
replace x p q = cond (eqb (number p) (number x)) q p

-- "Floor: silent and clash become bury."
abbrev pub floor : Answer → Answer
floor Silent = Bury
floor Bury = Bury
floor Keep = Keep
floor Clash = Bury

-- "Ceiling: they become keep."
abbrev pub ceiling : Answer → Answer
ceiling Silent = Keep
ceiling Bury = Bury
ceiling Keep = Keep
ceiling Clash = Keep

-- The operators by name.
abbrev pub apply_one : One → Answer → Answer
apply_one Negate = negate
apply_one Turn = turn
apply_one Floor = floor
apply_one Ceiling = ceiling

abbrev pub apply_two : Two → Answer → Answer → Answer
apply_two Meet = meet
apply_two Join = join
apply_two TruthMeet = truth_meet
apply_two TruthJoin = truth_join
apply_two Implication = implication
apply_two Guard = guard
apply_two Priority = priority
apply_two (Replace x) = replace x

-- What a call that answers replies: "Success is 0 with its result .. A refusal returns number, place and second number, answer silent."
pub record Reply : Type 0 where
  pub refusal : Numbers
  pub answer : Answer

abbrev pub succeed : Answer → Reply
succeed a = record { refusal = none; answer = a }

abbrev pub refuse_answer : Numbers → Reply
refuse_answer n = record { refusal = n; answer = Silent }

abbrev pub refuse : ℕ → ℕ → Reply
refuse number place = refuse_answer (refused number place)

-- The same of a result.
abbrev pub answered : Result Answer Refusal → Reply
answered = replied succeed refuse_answer
