-- What a policy may say is exactly what it says under some choice of truth for each comparison on an absent fact; the same of tests.
use Prim.Native.Nat.{ℕ}
use mathlib.Core.Path.{◌≡◌, refl, sym, ap, ap₂, subst, ◌∙◌}
use mathlib.Core.Bool.{Bool, true, false, cond, not as opposite}
use mathlib.Core.Logic.{⊎_elim}
use mathlib.Core.List.Memᴰ
use mathlib.Core.List.{List, [], ◌∷◌}
use Rattle.answers.specs.declared.Answer.{Answer}
use Rattle.answers.specs.declared.Answer.TheVariants.{Silent}
use Rattle.answers.specs.Meaning.{apply_one, apply_two}
use Rattle.notices.specs.declared.Comparison.{Comparison}
use Rattle.std.specs.Prelude.{Option, Some, None}
use Rattle.notices.specs.Meaning as notice
use Rattle.sets.specs.Meaning.{Among}
use Rattle.sets.proofs.Members.{pairs_among, among_pairs}
use Rattle.truths.specs.Meaning.{combine, answered}
use Rattle.truths.proofs.Whenever.{whenever_either, cond_among}
use Rattle.truths.proofs.Truths.{each_truth}
use Rattle.trees.specs.Meaning.{Policy, Test, constant, one, two, when, not, joint, comparison, present, answers, says, holds}
use Rattle.trees.specs.Meaning.{Operand, first, second, Choice, compare_seen, under, always_false, may_compare, may_say, may_hold}

compare_among : (chosen : Bool) (c : Comparison) (s : Option ℕ) (value : ℕ) → Among (compare_seen chosen c s value) (may_compare c s value)
compare_among chosen c None value = each_truth chosen
compare_among chosen c (Some x) value = Memᴰ.head refl

among_compare : (b : Bool) (c : Comparison) (s : Option ℕ) (value : ℕ) → Among b (may_compare c s value) → compare_seen b c s value ≡ b
among_compare b c None value i = refl
among_compare b c (Some x) value i = sym (Memᴰ.eq_of_singleton i)

-- A choice as an operand's tree sees it, and choices for two operands as one for the whole tree.
abbrev pub within : Operand → Choice → Choice
within operand choice place = choice (operand ∷ place)

abbrev both : Choice → Choice → Choice
both c d [] = false
both c d (first ∷ place) = c place
both c d (second ∷ place) = d place

module _ (facts : List notice.Fact) where
  mutual
    unfolding says may_say

    -- Every choice's answer is possible ..
    pub says_among : (choice : Choice) (p : Policy) → Among (says facts (under facts choice) p) (may_say facts p)
    says_among choice (constant a) = Memᴰ.head refl
    says_among choice (one operator p) = Memᴰ.map (apply_one operator) (says_among (within first choice) p)
    says_among choice (two operator p q) =
        pairs_among (apply_two operator) (may_say facts p) (may_say facts q)
        (says_among (within first choice) p) (says_among (within second choice) q)
    says_among choice (when t p) =
        cond_among (holds facts (under facts (within first choice)) t) (says facts (under facts (within second choice)) p)
        (may_hold facts t) (may_say facts p)
        (holds_among (within first choice) t) (says_among (within second choice) p)

    pub holds_among : (choice : Choice) (t : Test) → Among (holds facts (under facts choice) t) (may_hold facts t)
    holds_among choice (not t) = Memᴰ.map opposite (holds_among (within first choice) t)
    holds_among choice (joint j t u) =
        pairs_among (combine j) (may_hold facts t) (may_hold facts u)
        (holds_among (within first choice) t) (holds_among (within second choice) u)
    holds_among choice (comparison c fact value) = compare_among (choice []) c (notice.seen facts fact) value
    holds_among choice (present fact) = Memᴰ.head refl
    holds_among choice (answers a p) = Memᴰ.map (answered a) (says_among (within first choice) p)

  mutual
    unfolding says may_say

    -- .. and nothing else is.
    pub among_says : (p : Policy) (a : Answer) → Among a (may_say facts p) → (choice : Choice) × (says facts (under facts choice) p ≡ a)
    among_says (constant a) b i = (always_false, sym (Memᴰ.eq_of_singleton i))
    among_says (one operator p) a i =
        let m = Memᴰ.of_map (apply_one operator) (may_say facts p) i in
        let c = among_says p m.0 m.1 in
        (both c.0 always_false, ap (apply_one operator) c.1 ∙ m.2)
    among_says (two operator p q) a i =
        let m = among_pairs (apply_two operator) (may_say facts p) (may_say facts q) i in
        let c = among_says p m.0 m.2 in
        let d = among_says q m.1 m.3 in
        (both c.0 d.0, ap₂ (apply_two operator) c.1 d.1 ∙ m.4)
    among_says (when t p) a i =
        ⊎_elim
        (λ m. let c = among_holds t false m.0 in
        (both c.0 always_false, ap (λ b. cond b (says facts (under facts always_false) p) Silent) c.1 ∙ sym m.1))
        (λ m. let c = among_holds t true m.0 in let d = among_says p a m.1 in
        (both c.0 d.0, ap₂ (λ b x. cond b x Silent) c.1 d.1))
        ((whenever_either a (may_hold facts t) (may_say facts p)).0 i)

    pub among_holds : (t : Test) (b : Bool) → Among b (may_hold facts t) → (choice : Choice) × (holds facts (under facts choice) t ≡ b)
    among_holds (not t) b i =
        let m = Memᴰ.of_map opposite (may_hold facts t) i in
        let c = among_holds t m.0 m.1 in
        (both c.0 always_false, ap opposite c.1 ∙ m.2)
    among_holds (joint j t u) b i =
        let m = among_pairs (combine j) (may_hold facts t) (may_hold facts u) i in
        let c = among_holds t m.0 m.2 in
        let d = among_holds u m.1 m.3 in
        (both c.0 d.0, ap₂ (combine j) c.1 d.1 ∙ m.4)
    among_holds (comparison c fact value) b i = (λ place. b, among_compare b c (notice.seen facts fact) value i)
    among_holds (present fact) b i = (always_false, sym (Memᴰ.eq_of_singleton i))
    among_holds (answers wanted p) b i =
        let m = Memᴰ.of_map (answered wanted) (may_say facts p) i in
        let c = among_says p m.0 m.1 in
        (both c.0 always_false, ap (answered wanted) c.1 ∙ m.2)

  -- So something is always possible.
  pub may_say-some : (p : Policy) → may_say facts p ≡ [] → ⊥
  may_say-some p e = Memᴰ.not-nil (subst (Among (says facts (under facts always_false) p)) e (says_among always_false p))
