-- A set that was handed on as a number: what is made of its members is what is made of the list.
use Prim.Native.Nat.{ℕ}
use mathlib.Core.Path.{◌≡◌, refl}
use mathlib.Core.List.{List, map}
use Rattle.answers.specs.declared.Answer.{Answer}
use Rattle.answers.specs.declared.Answer.TheVariants.{Clash}
use Rattle.answers.specs.Meaning.{meet}
use Rattle.answers.proofs.Every.{each, all2, all3}
use Rattle.sets.specs.Meaning.{set_of, pairs, answer_set, answers_in, meet_of}
use Rattle.sets.proofs.Members.{same_map, same-pairs}
use Rattle.sets.proofs.Folds.{fold_same}
use Rattle.sets.proofs.Numbers.{set_same, answers-same}

pub map_handed : {B : Type 0} (number : B → ℕ) (f : Answer → B) (s : List Answer) →
    set_of number (map f (answers_in (answer_set s))) ≡ set_of number (map f s)
map_handed number f s = set_same number (same_map f (answers-same s))

pub pairs_handed : (f : Answer → Answer → Answer) (s t : List Answer) →
    answer_set (pairs f (answers_in (answer_set s)) (answers_in (answer_set t))) ≡ answer_set (pairs f s t)
pairs_handed f s t = set_same _ (same-pairs f (answers-same s) (answers-same t))

pub meet_handed : (s : List Answer) → meet_of (answers_in (answer_set s)) ≡ meet_of s
meet_handed s =
    fold_same meet Clash (all3 _ (search refl)) (all2 _ (search refl)) (each _ (search refl)) (each _ (search refl))
    (λ a. a) meet_of refl (λ a s. refl) (answers-same s)
