-- Every lawful tree has one encoding, and that is bytes.
use Prim.Native.Nat.{ℕ, ◌+◌}
use mathlib.Core.Path.{◌≡◌, refl, ap₂, ◌∙◌}
use mathlib.Core.List.{List, [], ◌∷◌, ◌++◌}
use native.Mathlib.Omega.{arith}
use Rattle.answers.specs.Meaning.{number}
use Rattle.answers.proofs.Claims.{number_small}
use Rattle.fields.specs.Meaning.{two_bytes, four_bytes, Bytes}
use Rattle.fields.proofs.Numbers.{bytes-append, two_bytes_lem, four_bytes_lem}
use Rattle.codes.specs.declared.PolicyKind.TheVariants as P
use Rattle.codes.specs.declared.TestKind.TheVariants as T
use Rattle.trees.specs.Meaning.{Policy, Test, constant, one, two, when, not, joint, comparison, present, answers, PolicyBytes}
use Rattle.trees.specs.Meaning.{TestBytes, write_constant, write_one, write_two, write_when, write_not, write_joint, write_comparison}
use Rattle.trees.specs.Meaning.{write_present, write_answers, PolicyFits, TestFits}
use Rattle.speaking.proofs.Codes.{one_code, two_code, joint_code, comparison_code, policy_code_lem, test_code_lem, one-low, two-low, joint-low}
use Rattle.speaking.proofs.Codes.{comparison-low, constant_coded, one_coded, two_coded, when_coded, not_coded, joint_coded}
use Rattle.speaking.proofs.Codes.{comparison_coded, present_coded, answers_coded}

-- A tree's bytes.
unfoldable mutual
  pub policy_writing : Policy → List ℕ
  policy_writing (constant a) = number a ∷ []
  policy_writing (one operator p) = one_code operator ∷ policy_writing p
  policy_writing (two operator p q) = two_code operator ∷ policy_writing p ++ policy_writing q
  policy_writing (when t p) = 24 ∷ test_writing t ++ policy_writing p

  pub test_writing : Test → List ℕ
  test_writing (not t) = 40 ∷ test_writing t
  test_writing (joint j t u) = joint_code j ∷ test_writing t ++ test_writing u
  test_writing (comparison c fact value) = comparison_code c ∷ two_bytes fact ++ four_bytes value
  test_writing (present fact) = 46 ∷ two_bytes fact
  test_writing (answers a p) = (48 + number a) ∷ policy_writing p

-- They encode it,
mutual
  unfolding policy_writing PolicyFits

  pub policy_writing_lem : (p : Policy) → PolicyFits p → PolicyBytes p (policy_writing p)
  policy_writing_lem (constant a) h = write_constant (constant_coded a)
  policy_writing_lem (one operator p) h = write_one (one_coded operator h.0) (policy_writing_lem p h.1)
  policy_writing_lem (two operator p q) h = write_two (two_coded operator) (policy_writing_lem p h.0) (policy_writing_lem q h.1) refl
  policy_writing_lem (when t p) h = write_when when_coded (test_writing_lem t h.0) (policy_writing_lem p h.1) refl

  pub test_writing_lem : (t : Test) → TestFits t → TestBytes t (test_writing t)
  test_writing_lem (not t) h = write_not not_coded (test_writing_lem t h)
  test_writing_lem (joint j t u) h = write_joint (joint_coded j) (test_writing_lem t h.0) (test_writing_lem u h.1) refl
  test_writing_lem (comparison c fact value) h = write_comparison (comparison_coded c) refl
  test_writing_lem (present fact) h = write_present present_coded refl
  test_writing_lem (answers a p) h = write_answers (answers_coded a) (policy_writing_lem p h)

-- nothing else does,
headed : {a b : ℕ} {xs ys : List ℕ} → a ≡ b → xs ≡ ys → a ∷ xs ≡ b ∷ ys
headed e f = ap₂ (λ (x : ℕ) (l : List ℕ). x ∷ l) e f

mutual
  unfolding policy_writing

  pub policy_writing_only : {p : Policy} {v : List ℕ} → PolicyBytes p v → v ≡ policy_writing p
  policy_writing_only (write_constant {code} {a} h) = headed (policy_code_lem code (P.Constant a) h (omega (arith, number_small a))).0 refl
  policy_writing_only (write_one {code} {operator} h b) =
      headed (policy_code_lem code (P.One operator) h (one-low operator)).0 (policy_writing_only b)
  policy_writing_only (write_two {code} {operator} h b c e) =
      headed (policy_code_lem code (P.Two operator) h (two-low operator)).0 (e ∙ ap₂ ◌++◌ (policy_writing_only b) (policy_writing_only c))
  policy_writing_only (write_when {code} h b c e) =
      headed (policy_code_lem code P.When h (omega arith)).0 (e ∙ ap₂ ◌++◌ (test_writing_only b) (policy_writing_only c))

  pub test_writing_only : {t : Test} {v : List ℕ} → TestBytes t v → v ≡ test_writing t
  test_writing_only (write_not {code} h b) = headed (test_code_lem code T.Not h (omega arith)).0 (test_writing_only b)
  test_writing_only (write_joint {code} {j} h b c e) =
      headed (test_code_lem code (T.Joint j) h (joint-low j)).0 (e ∙ ap₂ ◌++◌ (test_writing_only b) (test_writing_only c))
  test_writing_only (write_comparison {code} {c} h e) = headed (test_code_lem code (T.Comparison c) h (comparison-low c)).0 e
  test_writing_only (write_present {code} h e) = headed (test_code_lem code T.Present h (omega arith)).0 e
  test_writing_only (write_answers {code} {a} h b) =
      headed (test_code_lem code (T.Answers a) h (omega (arith, number_small a))).0 (policy_writing_only b)

-- and they are bytes.
mutual
  unfolding policy_writing PolicyFits

  pub policy_writing_bytes : (p : Policy) → PolicyFits p → Bytes (policy_writing p)
  policy_writing_bytes (constant a) h = (omega (arith, number_small a), tt)
  policy_writing_bytes (one operator p) h =
      ((policy_code_lem (one_code operator) (P.One operator) (one_coded operator h.0) (one-low operator)).1, policy_writing_bytes p h.1)
  policy_writing_bytes (two operator p q) h = (
    (policy_code_lem (two_code operator) (P.Two operator) (two_coded operator) (two-low operator)).1,
    bytes-append (policy_writing p) (policy_writing q) (policy_writing_bytes p h.0) (policy_writing_bytes q h.1),
  )
  policy_writing_bytes (when t p) h =
      (omega arith, bytes-append (test_writing t) (policy_writing p) (test_writing_bytes t h.0) (policy_writing_bytes p h.1))

  pub test_writing_bytes : (t : Test) → TestFits t → Bytes (test_writing t)
  test_writing_bytes (not t) h = (omega arith, test_writing_bytes t h)
  test_writing_bytes (joint j t u) h = (
    (test_code_lem (joint_code j) (T.Joint j) (joint_coded j) (joint-low j)).1,
    bytes-append (test_writing t) (test_writing u) (test_writing_bytes t h.0) (test_writing_bytes u h.1),
  )
  test_writing_bytes (comparison c fact value) h = (
    (test_code_lem (comparison_code c) (T.Comparison c) (comparison_coded c) (comparison-low c)).1,
    bytes-append (two_bytes fact) (four_bytes value) (two_bytes_lem fact h.0) (four_bytes_lem value h.1),
  )
  test_writing_bytes (present fact) h = (omega arith, two_bytes_lem fact h)
  test_writing_bytes (answers a p) h = (omega (arith, number_small a), policy_writing_bytes p h)
