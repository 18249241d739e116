-- A list of facts that says all that another says, and more, only takes away from what a policy may say: a policy that does not ask
-- whether what is new is present.
use Prim.Native.Nat.{ℕ}
use mathlib.Core.Path.{◌≡◌, refl, ap, ◌∙◌}
use mathlib.Core.Bool.{Bool, true, false, cond, true≢false, not as opposite}
use mathlib.Core.Logic.{◌⊎◌, inl, inr}
use mathlib.Core.List.Memᴰ
use mathlib.Core.List.{List, [], ◌∷◌, ◌++◌}
use lib.Dec.{eqb}
use borrow.Author.Tests.{eqb-true}
use Rattle.answers.specs.Meaning.{apply_one, apply_two}
use Rattle.notices.specs.declared.Comparison.{Comparison}
use Rattle.std.specs.Prelude.{Option, Some, None}
use Rattle.notices.specs.Meaning as notice
use Rattle.sets.proofs.Members.{Subset, subset_map, subset_pairs}
use Rattle.truths.specs.Meaning.{combine, answered}
use Rattle.truths.proofs.Whenever.{subset_whenever}
use Rattle.truths.proofs.Truths.{each_truth}
use Rattle.trees.specs.Meaning.{Policy, Test, constant, one, two, when, not, joint, comparison, present, answers}
use Rattle.trees.specs.Meaning.{may_compare, may_say, may_hold, Gains, PolicyUnasked, TestUnasked}

-- What is seen behind one fact more at the front of both lists.
behind : (first : Bool) (x : Option ℕ) {s r : Option ℕ} → (s ≡ None) ⊎ (r ≡ s) → (cond first x s ≡ None) ⊎ (cond first x r ≡ cond first x s)
behind true x g = inr refl
behind false x g = g

absent_behind : (first : Bool) (value : ℕ) {s : Option ℕ} → cond first (Some value) s ≡ None → s ≡ None
absent_behind true value e = absurd (true≢false (ap notice.present e))
absent_behind false value e = e

-- A list gains where one fact is put into it, anywhere, of which it said nothing.
pub gains_one : (fs rest : List notice.Fact) (f : notice.Fact) → notice.seen (fs ++ rest) f.number ≡ None →
    Gains (fs ++ rest) (fs ++ f ∷ rest)
unfolding notice.seen
gains_one [] rest f h fact = go (eqb f.number fact) refl
  where
    go : (same : Bool) → eqb f.number fact ≡ same →
        (notice.seen rest fact ≡ None) ⊎ (cond same (Some f.value) (notice.seen rest fact) ≡ notice.seen rest fact)
    go true e = inl (rw (← eqb-true f.number fact e) h)
    go false e = inr refl
gains_one (x ∷ fs) rest f h fact =
    behind (eqb x.number fact) (Some x.value) (gains_one fs rest f (absent_behind (eqb x.number f.number) x.value h) fact)

compare_gains : (c : Comparison) (s r : Option ℕ) (value : ℕ) → (s ≡ None) ⊎ (r ≡ s) → Subset (may_compare c r value) (may_compare c s value)
compare_gains c s r value (inl e) b i = rw e (each_truth b)
compare_gains c s r value (inr e) b i = rw (← e) i

module _ (fs gs : List notice.Fact) (g : Gains fs gs) where
  mutual
    unfolding may_say PolicyUnasked

    pub may_say_gains : (p : Policy) → PolicyUnasked fs gs p → Subset (may_say gs p) (may_say fs p)
    may_say_gains (constant a) h = λ b i. i
    may_say_gains (one operator p) h = subset_map (apply_one operator) (may_say gs p) (may_say fs p) (may_say_gains p h)
    may_say_gains (two operator p q) h =
        subset_pairs (apply_two operator) (may_say gs p) (may_say fs p) (may_say gs q) (may_say fs q)
        (may_say_gains p h.0) (may_say_gains q h.1)
    may_say_gains (when t p) h =
        subset_whenever (may_hold gs t) (may_hold fs t) (may_say gs p) (may_say fs p) (may_hold_gains t h.0) (may_say_gains p h.1)

    pub may_hold_gains : (t : Test) → TestUnasked fs gs t → Subset (may_hold gs t) (may_hold fs t)
    may_hold_gains (not t) h = subset_map opposite (may_hold gs t) (may_hold fs t) (may_hold_gains t h)
    may_hold_gains (joint j t u) h =
        subset_pairs (combine j) (may_hold gs t) (may_hold fs t) (may_hold gs u) (may_hold fs u)
        (may_hold_gains t h.0) (may_hold_gains u h.1)
    may_hold_gains (comparison c fact value) h = compare_gains c (notice.seen fs fact) (notice.seen gs fact) value (g fact)
    may_hold_gains (present fact) h = λ b i. Memᴰ.head (Memᴰ.eq_of_singleton i ∙ h)
    may_hold_gains (answers a p) h = subset_map (answered a) (may_say gs p) (may_say fs p) (may_say_gains p h)
