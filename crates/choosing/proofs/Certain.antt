-- Where no comparison meets an absent fact, nothing is left to choose: one answer is possible, that of every choice.
use Prim.Native.Nat.{ℕ}
use mathlib.Core.Path.{◌≡◌, refl, ap, ap₂, subst, ◌∙◌}
use mathlib.Core.Bool.{Bool, true, false, cond, not as opposite}
use mathlib.Core.List.Memᴰ
use mathlib.Core.List.{List, [], ◌∷◌, map}
use Rattle.answers.specs.declared.Answer.{Answer}
use Rattle.answers.specs.declared.Answer.TheVariants.{Silent}
use Rattle.answers.specs.Meaning.{apply_one, apply_two}
use Rattle.notices.specs.declared.Comparison.{Comparison}
use Rattle.std.specs.Prelude.{Option, Some, None}
use Rattle.notices.specs.Meaning as notice
use Rattle.sets.specs.Meaning.{Among, pairs}
use Rattle.truths.specs.Meaning.{combine, answered, whenever}
use Rattle.trees.specs.Meaning.{Policy, Test, constant, one, two, when, not, joint, comparison, present, answers, says, holds}
use Rattle.trees.specs.Meaning.{first, second, Choice, compare_seen, under, may_compare, may_say, may_hold, PolicyCertain, TestCertain}
use Rattle.choosing.proofs.Choices.{within}

compare-certain : (chosen : Bool) (c : Comparison) (s : Option ℕ) (value : ℕ) → (s ≡ None → ⊥) →
    may_compare c s value ≡ compare_seen chosen c s value ∷ []
compare-certain chosen c None value h = absurd (h refl)
compare-certain chosen c (Some x) value h = refl

whenever-certain : (t : Bool) (a : Answer) → whenever (t ∷ []) (a ∷ []) ≡ cond t a Silent ∷ []
whenever-certain true a = refl
whenever-certain false a = refl

module _ (facts : List notice.Fact) where
  mutual
    unfolding says may_say PolicyCertain

    pub may_say-certain : (choice : Choice) (p : Policy) → PolicyCertain facts p → may_say facts p ≡ says facts (under facts choice) p ∷ []
    may_say-certain choice (constant a) h = refl
    may_say-certain choice (one operator p) h = ap (map (apply_one operator)) (may_say-certain (within first choice) p h)
    may_say-certain choice (two operator p q) h =
        ap₂ (pairs (apply_two operator)) (may_say-certain (within first choice) p h.0) (may_say-certain (within second choice) q h.1)
    may_say-certain choice (when t p) h =
        ap₂ whenever (may_hold-certain (within first choice) t h.0) (may_say-certain (within second choice) p h.1)
        ∙ whenever-certain (holds facts (under facts (within first choice)) t) (says facts (under facts (within second choice)) p)

    pub may_hold-certain : (choice : Choice) (t : Test) → TestCertain facts t → may_hold facts t ≡ holds facts (under facts choice) t ∷ []
    may_hold-certain choice (not t) h = ap (map opposite) (may_hold-certain (within first choice) t h)
    may_hold-certain choice (joint j t u) h =
        ap₂ (pairs (combine j)) (may_hold-certain (within first choice) t h.0) (may_hold-certain (within second choice) u h.1)
    may_hold-certain choice (comparison c fact value) h = compare-certain (choice []) c (notice.seen facts fact) value h
    may_hold-certain choice (present fact) h = refl
    may_hold-certain choice (answers a p) h = ap (map (answered a)) (may_say-certain (within first choice) p h)

  pub certain-says : (choice : Choice) (p : Policy) → PolicyCertain facts p → (a : Answer) → Among a (may_say facts p) →
      a ≡ says facts (under facts choice) p
  certain-says choice p h a i = Memᴰ.eq_of_singleton (subst (Among a) (may_say-certain choice p h) i)
