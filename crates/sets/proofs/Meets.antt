-- The meet of a set is the greatest answer that is contained in every member.
use mathlib.Core.Path.{◌≡◌, refl, ◌∙◌}
use mathlib.Core.Bool.{Bool, true, false}
use mathlib.Core.Logic.{⊎_elim}
use mathlib.Core.List.Memᴰ
use mathlib.Core.List.{List, [], ◌∷◌}
use lib.Dec.{T}
use Rattle.std.proofs.Common.{fold}
use Rattle.answers.specs.declared.Answer.{Answer}
use Rattle.answers.specs.declared.Answer.TheVariants.{Clash}
use Rattle.answers.specs.Meaning.{contained, meet}
use Rattle.answers.proofs.Every.{each, all2, all3}
use Rattle.answers.proofs.Laws.{contained-order, meet-greatest}
use Rattle.sets.specs.Meaning.{Among, meet_of}

test-true : (b : Bool) → T b → b ≡ true
test-true true h = refl
test-true false h = absurd h

true-test : {b : Bool} → b ≡ true → T b
true-test e = rw e tt

-- the members met one after another, from the first on
pub fold-meet : (a : Answer) (s : List Answer) → fold meet a s ≡ meet a (meet_of s)
fold-meet a [] = each (λ a. a ≡ meet a Clash) (search refl) a
fold-meet a (p ∷ ps) =
    fold-meet (meet a p) ps ∙ all3 (λ x y z. meet (meet x y) z ≡ meet x (meet y z)) (search refl) a p (meet_of ps)

pub meet_of-contained : (a : Answer) (s : List Answer) → Among a s → contained (meet_of s) a ≡ true
meet_of-contained a [] i = absurd (Memᴰ.not-nil i)
meet_of-contained a (p ∷ ps) i =
    ⊎_elim
    (λ (e : a ≡ p). rw e (all2 (λ x y. contained (meet x y) x ≡ true) (search refl) p (meet_of ps)))
    (λ j. test-true (contained (meet p (meet_of ps)) a)
    (contained-order.transitive (meet p (meet_of ps)) (meet_of ps) a (meet-greatest.right p (meet_of ps))
    (true-test (meet_of-contained a ps j))))
    (Memᴰ.cases_cons i)

pub meet_of-greatest : (x : Answer) (s : List Answer) → ((a : Answer) → Among a s → contained x a ≡ true) → contained x (meet_of s) ≡ true
meet_of-greatest x [] h = each (λ x. contained x (meet_of []) ≡ true) (search refl) x
meet_of-greatest x (p ∷ ps) h =
    test-true (contained x (meet p (meet_of ps)))
    (meet-greatest.greatest p (meet_of ps) x (true-test (h p (Memᴰ.head refl)))
    (true-test (meet_of-greatest x ps (λ a i. h a (Memᴰ.tail i)))))
