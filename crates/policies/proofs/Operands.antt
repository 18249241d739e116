-- What a tree may say, and what a test may be, hangs on what its operands may say and be alone: on their sets, handed on as numbers.
use Prim.Native.Nat.{ℕ}
use mathlib.Core.Path.{◌≡◌, refl, sym, ap}
use mathlib.Core.Bool.{not as opposite}
use mathlib.Core.List.{List, map}
use Rattle.answers.specs.declared.Answer.{Answer}
use Rattle.answers.specs.declared.operators.One.{One}
use Rattle.answers.specs.declared.operators.Two.{Two}
use Rattle.answers.specs.Meaning.{number, apply_one, apply_two}
use Rattle.notices.specs.Meaning.{Fact}
use Rattle.codes.specs.declared.Joint.{Joint}
use Rattle.sets.specs.Meaning.{pairs, answer_set, answers_in}
use Rattle.sets.proofs.Handed.{map_handed, pairs_handed}
use Rattle.truths.specs.Meaning.{truth_number, truth_set, truths_in, combine, answered, whenever}
use Rattle.truths.proofs.Truths.{not_handed, joint_handed, when_handed}
use Rattle.trees.specs.Meaning.{Policy, Test, one, two, when, not, joint, answers, may_say, may_hold, Read, made, refused, and_then}
use Rattle.leaves.specs.Meaning.{held}
use Rattle.policies.specs.Meaning.{told}

-- The operators on sets handed on as numbers.
abbrev pub one_on : One → ℕ → ℕ
one_on operator p = answer_set (map (apply_one operator) (answers_in p))

abbrev pub two_on : Two → ℕ → ℕ → ℕ
two_on operator p q = answer_set (pairs (apply_two operator) (answers_in p) (answers_in q))

abbrev pub when_on : ℕ → ℕ → ℕ
when_on t p = answer_set (whenever (truths_in t) (answers_in p))

abbrev pub not_on : ℕ → ℕ
not_on t = truth_set (map opposite (truths_in t))

abbrev pub joint_on : Joint → ℕ → ℕ → ℕ
joint_on j t u = truth_set (pairs (combine j) (truths_in t) (truths_in u))

abbrev pub answers_on : Answer → ℕ → ℕ
answers_on a p = truth_set (map (answered a) (answers_in p))

-- An operator on one operand that was read, and on two that are read one after the other.
abbrev pub on_one : {A B : Type 0} → (A → B) → Read A → Read B
on_one f x = and_then x (λ a end. made (f a) end)

abbrev pub on_two : {A B C : Type 0} → (A → B → C) → Read A → (ℕ → Read B) → Read C
on_two f x y = and_then x (λ a next. and_then (y next) (λ b end. made (f a b) end))

-- Where each tree stands for a number, an operator on the trees is one on their numbers.
one_of : {A B : Type 0} (a : A → ℕ) (b : B → ℕ) (f : A → B) (g : ℕ → ℕ) → ((p : A) → g (a p) ≡ b (f p)) →
    (x : Read A) → on_one b (on_one f x) ≡ on_one g (on_one a x)
one_of a b f g same (made p end) = ap (λ (n : ℕ). made n end) (sym (same p))
one_of a b f g same (refused r) = refl

two_of : {A B C : Type 0} (a : A → ℕ) (b : B → ℕ) (c : C → ℕ) (f : A → B → C) (g : ℕ → ℕ → ℕ) →
    ((p : A) (q : B) → g (a p) (b q) ≡ c (f p q)) →
    (x : Read A) (y : ℕ → Read B) → on_one c (on_two f x y) ≡ on_two g (on_one a x) (λ i. on_one b (y i))
two_of a b c f g same (made p next) y = one_of b c (f p) (g (a p)) (same p) (y next)
two_of a b c f g same (refused r) y = refl

module _ (fs : List Fact) where
  abbrev say : Policy → ℕ
  say p = answer_set (may_say fs p)

  abbrev hold : Test → ℕ
  hold t = truth_set (may_hold fs t)

  pub told_one_of : (operator : One) (x : Read Policy) → told fs (on_one (one operator) x) ≡ on_one (one_on operator) (told fs x)
  unfolding may_say told
  told_one_of operator = one_of say say (one operator) (one_on operator) (λ p. map_handed number (apply_one operator) (may_say fs p))

  pub told_two_of : (operator : Two) (x : Read Policy) (y : ℕ → Read Policy) →
      told fs (on_two (two operator) x y) ≡ on_two (two_on operator) (told fs x) (λ i. told fs (y i))
  unfolding may_say told
  told_two_of operator =
      two_of say say say (two operator) (two_on operator) (λ p q. pairs_handed (apply_two operator) (may_say fs p) (may_say fs q))

  pub told_when_of : (x : Read Test) (y : ℕ → Read Policy) → told fs (on_two when x y) ≡ on_two when_on (held fs x) (λ i. told fs (y i))
  unfolding may_say told held
  told_when_of = two_of hold say say when when_on (λ t p. when_handed (may_hold fs t) (may_say fs p))

  pub held_not_of : (x : Read Test) → held fs (on_one not x) ≡ on_one not_on (held fs x)
  unfolding may_say held
  held_not_of = one_of hold hold not not_on (λ t. not_handed opposite (may_hold fs t))

  pub held_joint_of : (j : Joint) (x : Read Test) (y : ℕ → Read Test) →
      held fs (on_two (joint j) x y) ≡ on_two (joint_on j) (held fs x) (λ i. held fs (y i))
  unfolding may_say held
  held_joint_of j = two_of hold hold hold (joint j) (joint_on j) (λ t u. joint_handed (combine j) (may_hold fs t) (may_hold fs u))

  pub held_answers_of : (wanted : Answer) (x : Read Policy) → held fs (on_one (answers wanted) x) ≡ on_one (answers_on wanted) (told fs x)
  unfolding may_say told held
  held_answers_of wanted = one_of say hold (answers wanted) (answers_on wanted) (λ p. map_handed truth_number (answered wanted) (may_say fs p))
