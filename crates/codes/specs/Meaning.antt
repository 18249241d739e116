-- The codes of voices, each beside what it asks for: reading and writing go by these two lists alone.
use Rattle.std.specs.Prelude.{ℕ, cond, List, [], ◌∷◌, eqb}
use Rattle.answers.specs.declared.Answer.TheVariants.{Silent, Bury, Keep, Clash}
use Rattle.answers.specs.declared.operators.One.TheVariants.{Negate, Floor, Ceiling}
use Rattle.answers.specs.declared.operators.Two.TheVariants.{TruthMeet, TruthJoin, Meet, Join, Implication, Guard, Priority, Replace}
use Rattle.notices.specs.declared.Comparison.TheVariants.{Equal, AtLeast, Below}
use Rattle.codes.specs.declared.PolicyKind.{PolicyKind}
use Rattle.codes.specs.declared.PolicyKind.TheVariants as P
use Rattle.codes.specs.declared.TestKind.{TestKind}
use Rattle.codes.specs.declared.TestKind.TheVariants as T
use Rattle.codes.specs.declared.Joint.TheVariants.{And, Or}

-- "Policies: 0 to 3 constant; 8 negate, 9 floor, 10 ceiling (one policy follows); 12 truth meet, 13 truth join, 14 meet,
-- 15 join, 16 implication, 17 guard, 18 priority, 20 to 23 replace answer code-20 (two policies follow); 24 when: a test,
-- then a policy"
abbrev pub policy_codes : List (ℕ × PolicyKind)
policy_codes =
    (0, P.Constant Silent)
    ∷ (1, P.Constant Bury)
    ∷ (2, P.Constant Keep)
    ∷ (3, P.Constant Clash)
    ∷ (8, P.One Negate)
    ∷ (9, P.One Floor)
    ∷ (10, P.One Ceiling)
    ∷ (12, P.Two TruthMeet)
    ∷ (13, P.Two TruthJoin)
    ∷ (14, P.Two Meet)
    ∷ (15, P.Two Join)
    ∷ (16, P.Two Implication)
    ∷ (17, P.Two Guard)
    ∷ (18, P.Two Priority)
    ∷ (20, P.Two (Replace Silent))
    ∷ (21, P.Two (Replace Bury))
    ∷ (22, P.Two (Replace Keep))
    ∷ (23, P.Two (Replace Clash))
    ∷ (24, P.When)
    ∷ []

-- "Tests: 40 not; 41 and; 42 or; 43 equal, 44 at least, 45 below (fact number, four-byte value ..); 46 present (fact
-- number); 48 to 51: the policy that follows answers code-48."
abbrev pub test_codes : List (ℕ × TestKind)
test_codes =
    (40, T.Not)
    ∷ (41, T.Joint And)
    ∷ (42, T.Joint Or)
    ∷ (43, T.Comparison Equal)
    ∷ (44, T.Comparison AtLeast)
    ∷ (45, T.Comparison Below)
    ∷ (46, T.Present)
    ∷ (48, T.Answers Silent)
    ∷ (49, T.Answers Bury)
    ∷ (50, T.Answers Keep)
    ∷ (51, T.Answers Clash)
    ∷ []

-- What stands beside a code in such a list, or what is given for a byte that is not in it.
abbrev pub found : {A : Type 0} → A → List (ℕ × A) → ℕ → A
found other [] code = other
found other (e ∷ es) code = cond (eqb code e.0) e.1 (found other es code)

unfoldable pub policy_kind : ℕ → PolicyKind
policy_kind code = found P.Foreign policy_codes code

unfoldable pub test_kind : ℕ → TestKind
test_kind code = found T.Foreign test_codes code
