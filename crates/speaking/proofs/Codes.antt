-- Each kind has one code, which is a byte; turn has none.
use Prim.Native.Nat.{ℕ, ◌+◌, ◌≤◌, ◌<◌}
use mathlib.Core.Path.{◌≡◌, refl, sym, ap, ◌∙◌}
use mathlib.Core.Bool.{Bool, true, false, cond, ◌&&◌}
use mathlib.Core.List.{List, [], ◌∷◌}
use native.Mathlib.Omega.{arith}
use lib.Dec.{eqb, ltb}
use borrow.Author.Tests.{eqb-true, ltb-true}
use Rattle.answers.specs.declared.Answer.{Answer}
use Rattle.answers.specs.declared.operators.One.{One}
use Rattle.answers.specs.declared.operators.One.TheVariants.{Negate, Turn, Floor, Ceiling}
use Rattle.answers.specs.declared.operators.Two.{Two}
use Rattle.answers.specs.declared.operators.Two.TheVariants.{Meet, Join, TruthMeet, TruthJoin, Implication, Guard, Priority, Replace}
use Rattle.answers.specs.Meaning.{number}
use Rattle.answers.proofs.Claims.{number_small}
use Rattle.answers.proofs.Every.{each}
use Rattle.notices.specs.declared.Comparison.{Comparison}
use Rattle.notices.specs.declared.Comparison.TheVariants.{Equal, AtLeast, Below}
use Rattle.codes.specs.declared.Joint.{Joint}
use Rattle.codes.specs.declared.Joint.TheVariants.{And, Or}
use Rattle.codes.specs.declared.PolicyKind.{PolicyKind}
use Rattle.codes.specs.declared.PolicyKind.TheVariants as P
use Rattle.codes.specs.declared.TestKind.{TestKind}
use Rattle.codes.specs.declared.TestKind.TheVariants as T
use Rattle.codes.specs.Meaning.{policy_codes, test_codes, found, policy_kind, test_kind}

-- The code of each kind: 256 and 257 are no bytes.
abbrev pub one_code : One → ℕ
one_code Negate = 8
one_code Turn = 256
one_code Floor = 9
one_code Ceiling = 10

abbrev pub two_code : Two → ℕ
two_code TruthMeet = 12
two_code TruthJoin = 13
two_code Meet = 14
two_code Join = 15
two_code Implication = 16
two_code Guard = 17
two_code Priority = 18
two_code (Replace x) = 20 + number x

abbrev pub policy_code : PolicyKind → ℕ
policy_code (P.Constant a) = number a
policy_code (P.One operator) = one_code operator
policy_code (P.Two operator) = two_code operator
policy_code P.When = 24
policy_code P.Foreign = 257

abbrev pub joint_code : Joint → ℕ
joint_code And = 41
joint_code Or = 42

abbrev pub comparison_code : Comparison → ℕ
comparison_code Equal = 43
comparison_code AtLeast = 44
comparison_code Below = 45

abbrev pub test_code : TestKind → ℕ
test_code T.Not = 40
test_code (T.Joint j) = joint_code j
test_code (T.Comparison c) = comparison_code c
test_code T.Present = 46
test_code (T.Answers a) = 48 + number a
test_code T.Foreign = 257

-- The list has each kind's code beside it, and bytes only: one computed test.
unfoldable agrees : {A : Type 0} → (A → ℕ) → List (ℕ × A) → Bool
agrees code_of [] = true
agrees code_of (e ∷ es) = eqb (code_of e.1) e.0 && (ltb e.0 256 && agrees code_of es)

both : (a b : Bool) → (a && b) ≡ true → (a ≡ true) × (b ≡ true)
both true true h = (refl, refl)
both true false h = (refl, h)
both false b h = absurd (never h)
  where
    never : false ≡ true → ⊥
    never q = let z : ◌≡◌ {A = ℕ} 0 1 = ap (λ (b : Bool). cond b 1 0) q in omega arith

found_code : {A : Type 0} (code_of : A → ℕ) (other : A) (es : List (ℕ × A)) → agrees code_of es ≡ true → 257 ≤ code_of other → (code : ℕ) →
    code_of (found other es code) < 257 → (code_of (found other es code) ≡ code) × (code < 256)
unfolding agrees
found_code code_of other [] h o code l = absurd (omega arith)
found_code code_of other (e ∷ es) h o code l =
    let x = both (eqb (code_of e.1) e.0) (ltb e.0 256 && agrees code_of es) h in
    let y = both (ltb e.0 256) (agrees code_of es) x.1 in
    go (eqb code e.0) refl (eqb-true (code_of e.1) e.0 x.0) (ltb-true e.0 256 y.0) l
    (found_code code_of other es y.1 o code)
  where
    go : (b : Bool) → eqb code e.0 ≡ b → code_of e.1 ≡ e.0 → e.0 < 256 → code_of (cond b e.1 (found other es code)) < 257 →
        (code_of (found other es code) < 257 → (code_of (found other es code) ≡ code) × (code < 256)) →
        (code_of (cond b e.1 (found other es code)) ≡ code) × (code < 256)
    go true q c s l r = let i = eqb-true code e.0 q in (c ∙ sym i, omega arith)
    go false q c s l r = r l

pub policy_code_lem : (code : ℕ) (kind : PolicyKind) → policy_kind code ≡ kind → policy_code kind < 257 → (code ≡ policy_code kind) × (code < 256)
unfolding agrees policy_kind
policy_code_lem code kind h l =
    let r = found_code policy_code P.Foreign policy_codes refl (omega arith) code (rw h l) in
    (sym r.0 ∙ ap policy_code h, r.1)

pub test_code_lem : (code : ℕ) (kind : TestKind) → test_kind code ≡ kind → test_code kind < 257 → (code ≡ test_code kind) × (code < 256)
unfolding agrees test_kind
test_code_lem code kind h l =
    let r = found_code test_code T.Foreign test_codes refl (omega arith) code (rw h l) in
    (sym r.0 ∙ ap test_code h, r.1)

pub no_turn : (code : ℕ) (operator : One) → policy_kind code ≡ P.One operator → operator ≡ Turn → ⊥
no_turn code operator h q = let r = policy_code_lem code (P.One Turn) (h ∙ ap (λ (o : One). P.One o) q) (omega arith) in omega arith

-- Each kind's code is below 257, and asks for it.
pub one-low : (operator : One) → one_code operator < 257
one-low Negate = omega arith
one-low Turn = omega arith
one-low Floor = omega arith
one-low Ceiling = omega arith

pub two-low : (operator : Two) → two_code operator < 257
two-low TruthMeet = omega arith
two-low TruthJoin = omega arith
two-low Meet = omega arith
two-low Join = omega arith
two-low Implication = omega arith
two-low Guard = omega arith
two-low Priority = omega arith
two-low (Replace x) = omega (arith, number_small x)

pub joint-low : (j : Joint) → joint_code j < 257
joint-low And = omega arith
joint-low Or = omega arith

pub comparison-low : (c : Comparison) → comparison_code c < 257
comparison-low Equal = omega arith
comparison-low AtLeast = omega arith
comparison-low Below = omega arith

pub constant_coded : (a : Answer) → policy_kind (number a) ≡ P.Constant a
unfolding policy_kind
constant_coded = each (λ a. policy_kind (number a) ≡ P.Constant a) (refl, refl, refl, refl)

pub one_coded : (operator : One) → (operator ≡ Turn → ⊥) → policy_kind (one_code operator) ≡ P.One operator
unfolding policy_kind
one_coded Negate h = refl
one_coded Turn h = absurd (h refl)
one_coded Floor h = refl
one_coded Ceiling h = refl

pub two_coded : (operator : Two) → policy_kind (two_code operator) ≡ P.Two operator
unfolding policy_kind
two_coded TruthMeet = refl
two_coded TruthJoin = refl
two_coded Meet = refl
two_coded Join = refl
two_coded Implication = refl
two_coded Guard = refl
two_coded Priority = refl
two_coded (Replace x) = each (λ x. policy_kind (20 + number x) ≡ P.Two (Replace x)) (refl, refl, refl, refl) x

pub when_coded : policy_kind 24 ≡ P.When
unfolding policy_kind
when_coded = refl

pub not_coded : test_kind 40 ≡ T.Not
unfolding test_kind
not_coded = refl

pub joint_coded : (j : Joint) → test_kind (joint_code j) ≡ T.Joint j
unfolding test_kind
joint_coded And = refl
joint_coded Or = refl

pub comparison_coded : (c : Comparison) → test_kind (comparison_code c) ≡ T.Comparison c
unfolding test_kind
comparison_coded Equal = refl
comparison_coded AtLeast = refl
comparison_coded Below = refl

pub present_coded : test_kind 46 ≡ T.Present
unfolding test_kind
present_coded = refl

pub answers_coded : (a : Answer) → test_kind (48 + number a) ≡ T.Answers a
unfolding test_kind
answers_coded = each (λ a. test_kind (48 + number a) ≡ T.Answers a) (refl, refl, refl, refl)
