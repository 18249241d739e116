-- One level of a voice, answered while it is read: what each way through the code gives is the answer of the tree read.
use Prim.Native.Nat.{ℕ, suc, ◌+◌, ◌-◌, ◌≤◌, ◌<◌}
use mathlib.Core.Path.{◌≡◌, sym, ap, ◌∙◌}
use mathlib.Core.List.{List, [], ◌∷◌}
use native.Mathlib.Omega.{arith}
use lib.ListN.{length, get_or}
use borrow.Author.Tests.{le-leb, lt-leb}
use Rattle.std.specs.Prelude.{Result, Err}
use Rattle.refusals.specs.declared.Refusal.{Refusal}
use Rattle.refusals.specs.Meaning as refusal
use Rattle.refusals.specs.Meaning.{Numbers, numbers}
use Rattle.answers.specs.declared.Answer.{Answer}
use Rattle.answers.specs.declared.operators.One.{One}
use Rattle.answers.specs.declared.operators.Two.{Two}
use Rattle.notices.specs.declared.Comparison.{Comparison}
use Rattle.notices.specs.Meaning.{Fact}
use Rattle.codes.specs.declared.PolicyKind.{PolicyKind}
use Rattle.codes.specs.declared.PolicyKind.TheVariants as P
use Rattle.codes.specs.declared.TestKind.{TestKind}
use Rattle.codes.specs.declared.TestKind.TheVariants as T
use Rattle.codes.specs.declared.Joint.{Joint}
use Rattle.codes.specs.Meaning.{policy_kind, test_kind}
use Rattle.sets.specs.Meaning.{answer_set}
use Rattle.trees.specs.Meaning.{may_say, Read, made, refused, reading}
use Rattle.trees.specs.Meaning.{comparison_at, present_at, policy_by, test_by, policy_at, test_at}
use Rattle.leaves.specs.Meaning.{held}
use Rattle.policies.specs.Meaning.{told}
use Rattle.policies.proofs.Operands.{on_one, on_two, one_on, two_on, when_on, not_on, joint_on, answers_on}
use Rattle.policies.proofs.Operands.{told_one_of, told_two_of, told_when_of, held_not_of, held_joint_of, held_answers_of}

level : (left : ℕ) → (left ≡ 0 → ⊥) → left ≡ suc (left - 1)
level left h = omega (arith, h)

-- What is made of an operand that was read, and what is given where it is refused.
module _ {A B : Type 0} (f : A → B) {x : Read A} {z : Read B} (by : on_one f x ≡ z) where
  one_made : {p : A} {r : B} {end : ℕ} → made p end ≡ x → r ≡ f p → made r end ≡ z
  one_made e w = rw w (ap (on_one f) e ∙ by)

  one_stops : {n : Numbers} → refused n ≡ x → refused n ≡ z
  one_stops e = ap (on_one f) e ∙ by

-- The same of two.
module _ {A B C : Type 0} (f : A → B → C) {x : Read A} (y : ℕ → Read B) {z : Read C} (by : on_two f x y ≡ z) where
  first_stops : {n : Numbers} → refused n ≡ x → refused n ≡ z
  first_stops e = ap (λ x. on_two f x y) e ∙ by

  module _ {p : A} {next : ℕ} (e : made p next ≡ x) where
    two_made : {q : B} {r : C} {end : ℕ} → made q end ≡ y next → r ≡ f p q → made r end ≡ z
    two_made g w = rw w (ap (on_one (f p)) g ∙ ap (λ x. on_two f x y) e ∙ by)

    second_stops : {n : Numbers} → refused n ≡ y next → refused n ≡ z
    second_stops g = ap (on_one (f p)) g ∙ ap (λ x. on_two f x y) e ∙ by

module _ (fs : List Fact) (v : List ℕ) (at : ℕ) where
  module _ {r : Numbers} (w : r ≡ refusal.refused refusal.NEST at) where
    pub told_nest : {left : ℕ} → left ≡ 0 → refused r ≡ told fs (policy_at left v at)
    unfolding policy_at told
    told_nest z = rw (z, w)

    pub held_nest : {left : ℕ} → left ≡ 0 → refused r ≡ held fs (test_at left v at)
    unfolding policy_at held
    held_nest z = rw (z, w)

  module _ (left : ℕ) (some : left ≡ 0 → ⊥) where
    -- what is said and held one level below
    abbrev policy : ℕ → Read ℕ
    policy i = told fs (policy_at (left - 1) v i)

    abbrev test : ℕ → Read ℕ
    test i = held fs (test_at (left - 1) v i)

    module _ {r : Numbers} (w : r ≡ refusal.refused refusal.CUT at) (l : length v ≤ at) where
      pub told_cut : refused r ≡ told fs (policy_at left v at)
      unfolding policy_at told
      told_cut = sym (ap (λ k. told fs (policy_at k v at)) (level left some) ∙ rw (le-leb (length v) at l, w))

      pub held_cut : refused r ≡ held fs (test_at left v at)
      unfolding policy_at held
      held_cut = sym (ap (λ k. held fs (test_at k v at)) (level left some) ∙ rw (le-leb (length v) at l, w))

    module _ (l : at < length v) {kind : PolicyKind} (k : kind ≡ policy_kind (get_or v at 0)) where
      told_by : (kind' : PolicyKind) → kind ≡ kind' →
          told fs (policy_at left v at) ≡ told fs (policy_by (λ i. policy_at (left - 1) v i) (λ i. test_at (left - 1) v i) at kind')
      unfolding policy_at
      told_by kind' e =
          ap (λ k. told fs (policy_at k v at)) (level left some) ∙ rw (lt-leb (length v) at l)
          (ap (λ x. told fs (policy_by (λ i. policy_at (left - 1) v i) (λ i. test_at (left - 1) v i) at x)) (sym k ∙ e))

      pub told-constant : {a : Answer} {r : ℕ} → kind ≡ P.Constant a → r ≡ answer_set (a ∷ []) → made r (at + 1) ≡ told fs (policy_at left v at)
      unfolding may_say told
      told-constant {a} e w = rw w (sym (told_by (P.Constant a) e))

      pub told_foreign : {r : Numbers} → kind ≡ P.Foreign → r ≡ refusal.refused refusal.CODE at → refused r ≡ told fs (policy_at left v at)
      unfolding told
      told_foreign e w = rw w (sym (told_by P.Foreign e))

      module _ {operator : One} (e : kind ≡ P.One operator) where
        one_by : on_one (one_on operator) (policy (at + 1)) ≡ told fs (policy_at left v at)
        one_by = sym (told_by (P.One operator) e ∙ told_one_of fs operator (policy_at (left - 1) v (at + 1)))

        pub told-one : {p r end : ℕ} → made p end ≡ policy (at + 1) → r ≡ one_on operator p → made r end ≡ told fs (policy_at left v at)
        told-one = one_made (one_on operator) one_by

        pub told_one_stop : (q : Result (ℕ × ℕ) Refusal) (x : Refusal) → q ≡ Err x → refused (numbers x) ≡ policy (at + 1) →
            reading q ≡ told fs (policy_at left v at)
        told_one_stop q x i f = ap reading i ∙ one_stops (one_on operator) one_by f

      module _ {operator : Two} (e : kind ≡ P.Two operator) where
        two_by : on_two (two_on operator) (policy (at + 1)) policy ≡ told fs (policy_at left v at)
        two_by = sym (told_by (P.Two operator) e ∙ told_two_of fs operator (policy_at (left - 1) v (at + 1)) (λ i. policy_at (left - 1) v i))

        pub told_two_first : (q : Result (ℕ × ℕ) Refusal) (x : Refusal) → q ≡ Err x → refused (numbers x) ≡ policy (at + 1) →
            reading q ≡ told fs (policy_at left v at)
        told_two_first q x i f = ap reading i ∙ first_stops (two_on operator) policy two_by f

        module _ {p next : ℕ} (f : made p next ≡ policy (at + 1)) where
          pub told-two : {q r end : ℕ} → made q end ≡ policy next → r ≡ two_on operator p q → made r end ≡ told fs (policy_at left v at)
          told-two = two_made (two_on operator) policy two_by f

          pub told_two_stop : (q : Result (ℕ × ℕ) Refusal) (x : Refusal) → q ≡ Err x → refused (numbers x) ≡ policy next →
              reading q ≡ told fs (policy_at left v at)
          told_two_stop q x i g = ap reading i ∙ second_stops (two_on operator) policy two_by f g

      module _ (e : kind ≡ P.When) where
        when_by : on_two when_on (test (at + 1)) policy ≡ told fs (policy_at left v at)
        when_by = sym (told_by P.When e ∙ told_when_of fs (test_at (left - 1) v (at + 1)) (λ i. policy_at (left - 1) v i))

        pub told_when_first : (q : Result (ℕ × ℕ) Refusal) (x : Refusal) → q ≡ Err x → refused (numbers x) ≡ test (at + 1) →
            reading q ≡ told fs (policy_at left v at)
        told_when_first q x i f = ap reading i ∙ first_stops when_on policy when_by f

        module _ {t next : ℕ} (f : made t next ≡ test (at + 1)) where
          pub told-when : {p r end : ℕ} → made p end ≡ policy next → r ≡ when_on t p → made r end ≡ told fs (policy_at left v at)
          told-when = two_made when_on policy when_by f

          pub told_when_stop : (q : Result (ℕ × ℕ) Refusal) (x : Refusal) → q ≡ Err x → refused (numbers x) ≡ policy next →
              reading q ≡ told fs (policy_at left v at)
          told_when_stop q x i g = ap reading i ∙ second_stops when_on policy when_by f g

    module _ (l : at < length v) {kind : TestKind} (k : kind ≡ test_kind (get_or v at 0)) where
      held_by : (kind' : TestKind) → kind ≡ kind' →
          held fs (test_at left v at) ≡ held fs (test_by (λ i. policy_at (left - 1) v i) (λ i. test_at (left - 1) v i) v at kind')
      unfolding policy_at
      held_by kind' e =
          ap (λ k. held fs (test_at k v at)) (level left some) ∙ rw (lt-leb (length v) at l)
          (ap (λ x. held fs (test_by (λ i. policy_at (left - 1) v i) (λ i. test_at (left - 1) v i) v at x)) (sym k ∙ e))

      pub held_foreign : {r : Numbers} → kind ≡ T.Foreign → r ≡ refusal.refused refusal.CODE at → refused r ≡ held fs (test_at left v at)
      unfolding held
      held_foreign e w = rw w (sym (held_by T.Foreign e))

      pub held-comparison : {c : Comparison} {r : Read ℕ} → kind ≡ T.Comparison c → r ≡ held fs (comparison_at v at c) →
          r ≡ held fs (test_at left v at)
      held-comparison {c} e w = w ∙ sym (held_by (T.Comparison c) e)

      pub held-present : {r : Read ℕ} → kind ≡ T.Present → r ≡ held fs (present_at v at) → r ≡ held fs (test_at left v at)
      held-present e w = w ∙ sym (held_by T.Present e)

      module _ (e : kind ≡ T.Not) where
        not_by : on_one not_on (test (at + 1)) ≡ held fs (test_at left v at)
        not_by = sym (held_by T.Not e ∙ held_not_of fs (test_at (left - 1) v (at + 1)))

        pub held-not : {t r end : ℕ} → made t end ≡ test (at + 1) → r ≡ not_on t → made r end ≡ held fs (test_at left v at)
        held-not = one_made not_on not_by

        pub held_not_stop : (q : Result (ℕ × ℕ) Refusal) (x : Refusal) → q ≡ Err x → refused (numbers x) ≡ test (at + 1) →
            reading q ≡ held fs (test_at left v at)
        held_not_stop q x i f = ap reading i ∙ one_stops not_on not_by f

      module _ {j : Joint} (e : kind ≡ T.Joint j) where
        joint_by : on_two (joint_on j) (test (at + 1)) test ≡ held fs (test_at left v at)
        joint_by = sym (held_by (T.Joint j) e ∙ held_joint_of fs j (test_at (left - 1) v (at + 1)) (λ i. test_at (left - 1) v i))

        pub held_joint_first : (q : Result (ℕ × ℕ) Refusal) (x : Refusal) → q ≡ Err x → refused (numbers x) ≡ test (at + 1) →
            reading q ≡ held fs (test_at left v at)
        held_joint_first q x i f = ap reading i ∙ first_stops (joint_on j) test joint_by f

        module _ {t next : ℕ} (f : made t next ≡ test (at + 1)) where
          pub held-joint : {u r end : ℕ} → made u end ≡ test next → r ≡ joint_on j t u → made r end ≡ held fs (test_at left v at)
          held-joint = two_made (joint_on j) test joint_by f

          pub held_joint_stop : (q : Result (ℕ × ℕ) Refusal) (x : Refusal) → q ≡ Err x → refused (numbers x) ≡ test next →
              reading q ≡ held fs (test_at left v at)
          held_joint_stop q x i g = ap reading i ∙ second_stops (joint_on j) test joint_by f g

      module _ {wanted : Answer} (e : kind ≡ T.Answers wanted) where
        answers_by : on_one (answers_on wanted) (policy (at + 1)) ≡ held fs (test_at left v at)
        answers_by = sym (held_by (T.Answers wanted) e ∙ held_answers_of fs wanted (policy_at (left - 1) v (at + 1)))

        pub held-answers : {p r end : ℕ} → made p end ≡ policy (at + 1) → r ≡ answers_on wanted p → made r end ≡ held fs (test_at left v at)
        held-answers = one_made (answers_on wanted) answers_by

        pub held_answers_stop : (q : Result (ℕ × ℕ) Refusal) (x : Refusal) → q ≡ Err x → refused (numbers x) ≡ policy (at + 1) →
            reading q ≡ held fs (test_at left v at)
        held_answers_stop q x i f = ap reading i ∙ one_stops (answers_on wanted) answers_by f

-- What `policy` gives.
pub ruleset policy_laws = (
  told_nest,
  told_cut,
  told-constant,
  told_foreign,
  told-one,
  told_one_stop,
  told-two,
  told_two_first,
  told_two_stop,
  told-when,
  told_when_first,
  told_when_stop,
)

-- What `test` gives.
pub ruleset test_laws = (
  held_nest,
  held_cut,
  held_foreign,
  held-comparison,
  held-present,
  held-not,
  held_not_stop,
  held-joint,
  held_joint_first,
  held_joint_stop,
  held-answers,
  held_answers_stop,
)
