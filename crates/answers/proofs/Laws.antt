-- The laws of the answers: both orders and their bounds, the operators that undo themselves, those that keep the
-- information order and those that do not, and the two lines of document 001 that do not hold.
use Prim.Native.Nat.{ℕ}
use mathlib.Core.Path.{◌≡◌, refl}
use mathlib.Core.Logic.{◌↔◌}
use mathlib.Core.Bool.{Bool, not}
use lib.Dec.{T}
use Rattle.answers.specs.declared.Answer.{Answer}
use Rattle.answers.specs.declared.Answer.TheVariants.{Silent, Bury, Keep, Clash}
use Rattle.answers.specs.declared.operators.One.{One}
use Rattle.answers.specs.declared.operators.One.TheVariants.{Negate, Turn, Floor, Ceiling}
use Rattle.answers.specs.declared.operators.Two.{Two}
use Rattle.answers.specs.declared.operators.Two.TheVariants.{Meet, Join, TruthMeet, TruthJoin, Implication, Guard, Priority, Replace}
use Rattle.answers.specs.Meaning.{contained, below, meet, join, truth_meet, truth_join, negate, turn, implication, replace, apply_one, apply_two}
use Rattle.answers.specs.Orders.{PartialOrder, Greatest, Least, Grows1, Grows2, grows1, grows2, replace_grows, Formula, operand, bury, not_of, meet_of, implied, value}
use Rattle.answers.proofs.Every.{each, all2, all3}

never : {x y : Answer} → ⊥ → x ≡ y
never h = absurd h

pub contained-order : PartialOrder contained
contained-order =
    record {
      reflexive = each _ (search tt);
      transitive = all3 _ (search tt);
      antisymmetric = all2 _ (search (refl, never));
    }

pub below-order : PartialOrder below
below-order =
    record {
      reflexive = each _ (search tt);
      transitive = all3 _ (search tt);
      antisymmetric = all2 _ (search (refl, never));
    }

pub meet-greatest : Greatest contained meet
meet-greatest = record { left = all2 _ (search tt); right = all2 _ (search tt); greatest = all3 _ (search tt) }

pub join-least : Least contained join
join-least = record { left = all2 _ (search tt); right = all2 _ (search tt); greatest = all3 _ (search tt) }

pub truth_meet-greatest : Greatest below truth_meet
truth_meet-greatest = record { left = all2 _ (search tt); right = all2 _ (search tt); greatest = all3 _ (search tt) }

pub truth_join-least : Least below truth_join
truth_join-least = record { left = all2 _ (search tt); right = all2 _ (search tt); greatest = all3 _ (search tt) }

pub join_comm : (x y : Answer) → join x y ≡ join y x
join_comm = all2 _ (search refl)

pub join_assoc : (x y z : Answer) → join (join x y) z ≡ join x (join y z)
join_assoc = all3 _ (search refl)

pub join-same : (x : Answer) → join x x ≡ x
join-same = each _ (search refl)

pub negate_twice : (x : Answer) → negate (negate x) ≡ x
negate_twice = each _ (search refl)

pub turn-four : (x : Answer) → turn (turn (turn (turn x))) ≡ x
turn-four = each _ (search refl)

-- An operator of one operand keeps the information order exactly if it is negate.
pub one_grows : (o : One) → T (grows1 o) ↔ Grows1 (apply_one o)
one_grows Negate = (λ h. all2 _ (search tt), λ g. tt)
one_grows Turn = (λ h. absurd h, λ g. g Bury Clash tt)
one_grows Floor = (λ h. absurd h, λ g. g Silent Keep tt)
one_grows Ceiling = (λ h. absurd h, λ g. g Silent Bury tt)

-- Growing in each operand is growing in both.
sides :
    (f : Answer → Answer → Answer) →
    ((x y u : Answer) → T (contained x y) → T (contained (f x u) (f y u))) →
    ((x u v : Answer) → T (contained u v) → T (contained (f x u) (f x v))) →
    Grows2 f
sides f l r x y u v h k = contained-order.transitive (f x u) (f y u) (f y v) (l x y u h) (r y u v k)

replace-grows : (x : Answer) → T (replace_grows x) ↔ Grows2 (replace x)
replace-grows Silent = (λ h. absurd h, λ g. g Silent Bury Keep Keep tt tt)
replace-grows Bury = (λ h. sides (replace Bury) (all3 _ (search tt)) (all3 _ (search tt)), λ g. tt)
replace-grows Keep = (λ h. sides (replace Keep) (all3 _ (search tt)) (all3 _ (search tt)), λ g. tt)
replace-grows Clash = (λ h. absurd h, λ g. g Keep Clash Bury Bury tt tt)

-- Of the operators of two operands these keep it: meet, join, truth meet, truth join, guard, replacing bury, replacing keep.
pub two-grows : (o : Two) → T (grows2 o) ↔ Grows2 (apply_two o)
two-grows Meet = (λ h. sides meet (all3 _ (search tt)) (all3 _ (search tt)), λ g. tt)
two-grows Join = (λ h. sides join (all3 _ (search tt)) (all3 _ (search tt)), λ g. tt)
two-grows TruthMeet = (λ h. sides truth_meet (all3 _ (search tt)) (all3 _ (search tt)), λ g. tt)
two-grows TruthJoin = (λ h. sides truth_join (all3 _ (search tt)) (all3 _ (search tt)), λ g. tt)
two-grows Implication = (λ h. absurd h, λ g. g Silent Keep Bury Bury tt tt)
two-grows Guard = (λ h. sides (apply_two Guard) (all3 _ (search tt)) (all3 _ (search tt)), λ g. tt)
two-grows Priority = (λ h. absurd h, λ g. g Silent Bury Keep Keep tt tt)
two-grows (Replace x) = replace-grows x

-- "Silent, bury and keep are closed under negation, truth meet and implication, so those with the constant bury cannot give clash."
clashless : Answer → Bool
clashless x = not (contained Clash x)

to-test : (x : Answer) → (x ≡ Clash → ⊥) → T (clashless x)
unfolding clashless
to-test = each _ ((λ h. tt), (λ h. tt), (λ h. tt), λ h. absurd (h refl))

formula_test : (at : ℕ → Answer) → ((k : ℕ) → T (clashless (at k))) → (f : Formula) → T (clashless (value at f))
unfolding value clashless
formula_test at h (operand k) = h k
formula_test at h bury = tt
formula_test at h (not_of f) = each (λ x. T (clashless x) → T (clashless (negate x))) (search tt) (value at f) (formula_test at h f)
formula_test at h (meet_of f g) =
    all2 (λ x y. T (clashless x) → T (clashless y) → T (clashless (truth_meet x y))) (search tt) (value at f) (value at g)
    (formula_test at h f)
    (formula_test at h g)
formula_test at h (implied f g) =
    all2 (λ x y. T (clashless x) → T (clashless y) → T (clashless (implication x y))) (search tt) (value at f) (value at g)
    (formula_test at h f)
    (formula_test at h g)

pub formula_clashless : (at : ℕ → Answer) → ((k : ℕ) → at k ≡ Clash → ⊥) → (f : Formula) → value at f ≡ Clash → ⊥
unfolding clashless
formula_clashless at h f e = rw e at (formula_test at (λ k. to-test (at k) (h k)) f)

-- "And its encoding of replacement of bury gives bury for p bury, q keep; the definition gives keep."
pub replace_encoding : (truth_join Bury (truth_meet (negate (truth_join Bury (negate Bury))) Keep) ≡ Bury) × (replace Bury Bury Keep ≡ Keep)
replace_encoding = (refl, refl)
