-- Policies and tests: their trees, what these say and may say, how their bytes are read, and which bytes encode which tree.
use Rattle.std.specs.Prelude.{ℕ, zero, suc, ◌+◌, ◌<◌, max, ◌≡◌, Bool, true, false, cond, not as opposite, ◌⊎◌, List, [], ◌∷◌, ◌++◌, map, Option, Some, None, Result, ltb, leb, length, get_or}
use Rattle.refusals.specs.declared.Refusal.{Refusal}
use Rattle.refusals.specs.Meaning.{Numbers, replied}
use Rattle.refusals.specs.Meaning as refusal
use Rattle.answers.specs.declared.Answer.{Answer}
use Rattle.answers.specs.declared.Answer.TheVariants.{Silent}
use Rattle.answers.specs.declared.operators.One.{One}
use Rattle.answers.specs.declared.operators.One.TheVariants.{Turn}
use Rattle.answers.specs.declared.operators.Two.{Two}
use Rattle.answers.specs.Meaning.{apply_one, apply_two}
use Rattle.fields.specs.Meaning.{two_at, four_at, two_bytes, four_bytes}
use Rattle.notices.specs.declared.Comparison.{Comparison}
use Rattle.notices.specs.Meaning as notice
use Rattle.codes.specs.declared.Joint.{Joint}
use Rattle.codes.specs.declared.PolicyKind.{PolicyKind}
use Rattle.codes.specs.declared.PolicyKind.TheVariants as P
use Rattle.codes.specs.declared.TestKind.{TestKind}
use Rattle.codes.specs.declared.TestKind.TheVariants as T
use Rattle.codes.specs.Meaning.{policy_kind, test_kind}
use Rattle.sets.specs.Meaning.{pairs}
use Rattle.truths.specs.Meaning.{combine, answered, whenever}

-- A policy is a constant, an operator on one policy or on two, or when; a test is not, an and or an or, a comparison of a
-- fact with a value, present, or answers. "So a policy may hold a test and a test may hold a policy."
mutual
  pub data Policy : Type 0 where
    constant : Answer → Policy
    one : One → Policy → Policy
    two : Two → Policy → Policy → Policy
    when : Test → Policy → Policy

  pub data Test : Type 0 where
    not : Test → Test
    joint : Joint → Test → Test → Test
    comparison : Comparison → ℕ → ℕ → Test
    present : ℕ → Test
    answers : Answer → Policy → Test

-- Where in a tree a comparison stands: from the root on, in which operand of each operator.
pub data Operand : Type 0 where
  first : Operand
  second : Operand

abbrev pub Place : Type 0
Place = List Operand

-- What the comparison at a place comes to, of a fact with a value.
abbrev pub Leaf : Type 0
Leaf = Place → Comparison → ℕ → ℕ → Bool

-- A leaf as an operand's tree sees it: places there start at the operand.
abbrev pub inside : Operand → Leaf → Leaf
inside operand leaf place = leaf (operand ∷ place)

-- What a policy answers to facts, by the published operators, and whether a test holds of them.
-- "24 when: a test, then a policy, silent where the test is false."
unfoldable mutual
  pub says : List notice.Fact → Leaf → Policy → Answer
  says facts leaf (constant a) = a
  says facts leaf (one operator p) = apply_one operator (says facts (inside first leaf) p)
  says facts leaf (two operator p q) = apply_two operator (says facts (inside first leaf) p) (says facts (inside second leaf) q)
  says facts leaf (when t p) = cond (holds facts (inside first leaf) t) (says facts (inside second leaf) p) Silent

  pub holds : List notice.Fact → Leaf → Test → Bool
  holds facts leaf (not t) = opposite (holds facts (inside first leaf) t)
  holds facts leaf (joint j t u) = combine j (holds facts (inside first leaf) t) (holds facts (inside second leaf) u)
  holds facts leaf (comparison c fact value) = leaf [] c fact value
  holds facts leaf (present fact) = notice.present (notice.seen facts fact)
  holds facts leaf (answers a p) = answered a (says facts (inside first leaf) p)

-- A choice of truth for each comparison on an absent fact, by where it stands: "for every choice of truth for each absent
-- comparison".
abbrev pub Choice : Type 0
Choice = Place → Bool

-- Document 01's rules under a choice: wherever the comparison stands, the fact is looked up.
abbrev pub compare_seen : Bool → Comparison → Option ℕ → ℕ → Bool
compare_seen chosen c None value = chosen
compare_seen chosen c (Some x) value = notice.compare c x value

abbrev pub under : List notice.Fact → Choice → Leaf
under facts choice place c fact value = compare_seen (choice place) c (notice.seen facts fact) value

-- Document 01 itself: "A comparison on an absent fact is false."
abbrev pub always_false : Choice
always_false place = false

-- What a comparison may come to: with an absent fact "it may be true or false".
abbrev pub may_compare : Comparison → Option ℕ → ℕ → List Bool
may_compare c None value = false ∷ true ∷ []
may_compare c (Some x) value = notice.compare c x value ∷ []

-- What a policy may say of facts, and what a test may be: "operators act on every pair of possible operands", "The presence
-- test stays certain."
unfoldable mutual
  pub may_say : List notice.Fact → Policy → List Answer
  may_say facts (constant a) = a ∷ []
  may_say facts (one operator p) = map (apply_one operator) (may_say facts p)
  may_say facts (two operator p q) = pairs (apply_two operator) (may_say facts p) (may_say facts q)
  may_say facts (when t p) = whenever (may_hold facts t) (may_say facts p)

  pub may_hold : List notice.Fact → Test → List Bool
  may_hold facts (not t) = map opposite (may_hold facts t)
  may_hold facts (joint j t u) = pairs (combine j) (may_hold facts t) (may_hold facts u)
  may_hold facts (comparison c fact value) = may_compare c (notice.seen facts fact) value
  may_hold facts (present fact) = notice.present (notice.seen facts fact) ∷ []
  may_hold facts (answers a p) = map (answered a) (may_say facts p)

-- No comparison meets an absent fact: then nothing is left open.
unfoldable mutual
  pub PolicyCertain : List notice.Fact → Policy → Type 0
  PolicyCertain facts (constant a) = Unit
  PolicyCertain facts (one operator p) = PolicyCertain facts p
  PolicyCertain facts (two operator p q) = PolicyCertain facts p × PolicyCertain facts q
  PolicyCertain facts (when t p) = TestCertain facts t × PolicyCertain facts p

  pub TestCertain : List notice.Fact → Test → Type 0
  TestCertain facts (not t) = TestCertain facts t
  TestCertain facts (joint j t u) = TestCertain facts t × TestCertain facts u
  TestCertain facts (comparison c fact value) = notice.seen facts fact ≡ None → ⊥
  TestCertain facts (present fact) = Unit
  TestCertain facts (answers a p) = PolicyCertain facts p

-- The second list says all that the first says: of each fact the first says nothing, or both say the same.
abbrev pub Gains : List notice.Fact → List notice.Fact → Type 0
Gains fs gs = (fact : ℕ) → (notice.seen fs fact ≡ None) ⊎ (notice.seen gs fact ≡ notice.seen fs fact)

-- No test for presence asks for a fact that the second list has and the first has not.
unfoldable mutual
  pub PolicyUnasked : List notice.Fact → List notice.Fact → Policy → Type 0
  PolicyUnasked fs gs (constant a) = Unit
  PolicyUnasked fs gs (one operator p) = PolicyUnasked fs gs p
  PolicyUnasked fs gs (two operator p q) = PolicyUnasked fs gs p × PolicyUnasked fs gs q
  PolicyUnasked fs gs (when t p) = TestUnasked fs gs t × PolicyUnasked fs gs p

  pub TestUnasked : List notice.Fact → List notice.Fact → Test → Type 0
  TestUnasked fs gs (not t) = TestUnasked fs gs t
  TestUnasked fs gs (joint j t u) = TestUnasked fs gs t × TestUnasked fs gs u
  TestUnasked fs gs (comparison c fact value) = Unit
  TestUnasked fs gs (present fact) = notice.present (notice.seen gs fact) ≡ notice.present (notice.seen fs fact)
  TestUnasked fs gs (answers a p) = PolicyUnasked fs gs p

-- What reading gives: a tree and the offset after it, or why it is refused.
pub data Read (A : Type 0) : Type 0 where
  made : A → ℕ → Read A
  refused : Numbers → Read A

-- The same of a result.
abbrev pub reading : {A : Type 0} → Result (A × ℕ) Refusal → Read A
reading = replied (λ x. made x.0 x.1) refused

abbrev pub and_then : {A B : Type 0} → Read A → (A → ℕ → Read B) → Read B
and_then (made a next) onward = onward a next
and_then (refused r) onward = refused r

-- A comparison and a test for presence, whose code stands at an offset.
-- "fact number, four-byte value .. laid out as in a notice", "CUT if its number or value is incomplete (place: the code)"
unfoldable pub comparison_at : List ℕ → ℕ → Comparison → Read Test
comparison_at v at c =
    cond (ltb (length v) (at + 7)) (refused (refusal.refused refusal.CUT at))
    (made (comparison c (two_at v (at + 1)) (four_at v (at + 3))) (at + 7))

unfoldable pub present_at : List ℕ → ℕ → Read Test
present_at v at =
    cond (ltb (length v) (at + 3)) (refused (refusal.refused refusal.CUT at))
    (made (present (two_at v (at + 1))) (at + 3))

-- What is read where a code stands at an offset, by what it asks for; the operands are read one level below.
-- "CODE if the byte is not of the kind wanted"
abbrev pub policy_by : (ℕ → Read Policy) → (ℕ → Read Test) → ℕ → PolicyKind → Read Policy
policy_by policy test at (P.Constant a) = made (constant a) (at + 1)
policy_by policy test at (P.One operator) = and_then (policy (at + 1)) (λ p end. made (one operator p) end)
policy_by policy test at (P.Two operator) =
    and_then (policy (at + 1)) (λ p next. and_then (policy next) (λ q end. made (two operator p q) end))
policy_by policy test at P.When =
    and_then (test (at + 1)) (λ t next. and_then (policy next) (λ p end. made (when t p) end))
policy_by policy test at P.Foreign = refused (refusal.refused refusal.CODE at)

abbrev pub test_by : (ℕ → Read Policy) → (ℕ → Read Test) → List ℕ → ℕ → TestKind → Read Test
test_by policy test v at T.Not = and_then (test (at + 1)) (λ t end. made (not t) end)
test_by policy test v at (T.Joint j) =
    and_then (test (at + 1)) (λ t next. and_then (test next) (λ u end. made (joint j t u) end))
test_by policy test v at (T.Comparison c) = comparison_at v at c
test_by policy test v at T.Present = present_at v at
test_by policy test v at (T.Answers a) = and_then (policy (at + 1)) (λ p end. made (answers a p) end)
test_by policy test v at T.Foreign = refused (refusal.refused refusal.CODE at)

-- "Order at each level: NEST, CUT if no byte, CODE .., CUT .. NEST and a missing byte have as place the offset where the
-- code would stand; CODE has its own offset." The number is how many levels are left.
unfoldable mutual
  pub policy_at : ℕ → List ℕ → ℕ → Read Policy
  policy_at zero v at = refused (refusal.refused refusal.NEST at)
  policy_at (suc left) v at =
      cond (leb (length v) at) (refused (refusal.refused refusal.CUT at))
      (policy_by (λ i. policy_at left v i) (λ i. test_at left v i) at (policy_kind (get_or v at 0)))

  pub test_at : ℕ → List ℕ → ℕ → Read Test
  test_at zero v at = refused (refusal.refused refusal.NEST at)
  test_at (suc left) v at =
      cond (leb (length v) at) (refused (refusal.refused refusal.CUT at))
      (test_by (λ i. policy_at left v i) (λ i. test_at left v i) v at (test_kind (get_or v at 0)))

-- Which bytes are a tree's encoding: "operator first", a code that asks for it and then its operands' bytes, numbers and
-- values "laid out as in a notice".
mutual
  pub data PolicyBytes : Policy → List ℕ → Type 0 where
    write_constant : {code : ℕ} {a : Answer} → policy_kind code ≡ P.Constant a → PolicyBytes (constant a) (code ∷ [])
    write_one : {code : ℕ} {operator : One} {p : Policy} {ps : List ℕ} → policy_kind code ≡ P.One operator →
        PolicyBytes p ps → PolicyBytes (one operator p) (code ∷ ps)
    write_two : {code : ℕ} {operator : Two} {p q : Policy} {ps qs v : List ℕ} → policy_kind code ≡ P.Two operator →
        PolicyBytes p ps → PolicyBytes q qs → v ≡ ps ++ qs → PolicyBytes (two operator p q) (code ∷ v)
    write_when : {code : ℕ} {t : Test} {p : Policy} {ts ps v : List ℕ} → policy_kind code ≡ P.When →
        TestBytes t ts → PolicyBytes p ps → v ≡ ts ++ ps → PolicyBytes (when t p) (code ∷ v)

  pub data TestBytes : Test → List ℕ → Type 0 where
    write_not : {code : ℕ} {t : Test} {ts : List ℕ} → test_kind code ≡ T.Not → TestBytes t ts → TestBytes (not t) (code ∷ ts)
    write_joint : {code : ℕ} {j : Joint} {t u : Test} {ts us v : List ℕ} → test_kind code ≡ T.Joint j →
        TestBytes t ts → TestBytes u us → v ≡ ts ++ us → TestBytes (joint j t u) (code ∷ v)
    write_comparison : {code : ℕ} {c : Comparison} {fact value : ℕ} {v : List ℕ} → test_kind code ≡ T.Comparison c →
        v ≡ two_bytes fact ++ four_bytes value → TestBytes (comparison c fact value) (code ∷ v)
    write_present : {code fact : ℕ} {v : List ℕ} → test_kind code ≡ T.Present → v ≡ two_bytes fact → TestBytes (present fact) (code ∷ v)
    write_answers : {code : ℕ} {a : Answer} {p : Policy} {ps : List ℕ} → test_kind code ≡ T.Answers a →
        PolicyBytes p ps → TestBytes (answers a p) (code ∷ ps)

-- "The root is level 1 and each operand, policy or test, is one level below its operator." How many levels a tree has.
unfoldable mutual
  pub policy_depth : Policy → ℕ
  policy_depth (constant a) = 1
  policy_depth (one operator p) = suc (policy_depth p)
  policy_depth (two operator p q) = suc (max (policy_depth p) (policy_depth q))
  policy_depth (when t p) = suc (max (test_depth t) (policy_depth p))

  pub test_depth : Test → ℕ
  test_depth (not t) = suc (test_depth t)
  test_depth (joint j t u) = suc (max (test_depth t) (test_depth u))
  test_depth (comparison c fact value) = 1
  test_depth (present fact) = 1
  test_depth (answers a p) = suc (policy_depth p)

-- Every operator has a code (turn has none), every fact number is of two bytes, and every value of four.
unfoldable mutual
  pub PolicyFits : Policy → Type 0
  PolicyFits (constant a) = Unit
  PolicyFits (one operator p) = (operator ≡ Turn → ⊥) × PolicyFits p
  PolicyFits (two operator p q) = PolicyFits p × PolicyFits q
  PolicyFits (when t p) = TestFits t × PolicyFits p

  pub TestFits : Test → Type 0
  TestFits (not t) = TestFits t
  TestFits (joint j t u) = TestFits t × TestFits u
  TestFits (comparison c fact value) = (fact < 65536) × (value < 4294967296)
  TestFits (present fact) = fact < 65536
  TestFits (answers a p) = PolicyFits p
