-- No failing step is the law over all mergers: one situation grows into another by steps, one column at a time.
use Prim.Native.Nat.{ℕ, zero, suc}
use mathlib.Core.Path.{◌≡◌, refl, ap₂, subst, sym, ◌∙◌}
use mathlib.Core.List.{List, [], ◌∷◌}
use lib.Dec.{T}
use lib.ListN.{length, set, replicate, length-set, length-replicate}
use native.Mathlib.Omega.{arith}
use mathlib.Core.Logic.{◌↔◌}
use Rattle.answers.specs.Meaning.{join, contained}
use Rattle.answers.specs.declared.Answer.{Answer}
use Rattle.answers.specs.declared.Answer.TheVariants.{Silent, Bury}
use Rattle.answers.proofs.Every.{each, all2, all3}
use Rattle.answers.proofs.Laws.{contained-order}
use Rattle.situations.specs.Meaning.{merge, Within, raises, Step, Chain, here, step}
use Rattle.situations.proofs.Merging.{merge-left, merge-right}
use Rattle.situations.proofs.Steps.{step-within, within_chain}
use Rattle.growing.specs.Meaning.{Grows, FailingStep, strictly, added, alone}

-- every step keeps what was said
abbrev pub StepsGrow : (List Answer → Answer) → ℕ → Type 0
StepsGrow f n = (s : List Answer) (column : ℕ) (a : Answer) → length s ≡ n → Step s column a → T (contained (f s) (f (set s column a)))

-- what contains the other is their merger
never : {x y : Answer} → ⊥ → x ≡ y
never h = absurd h

join-contained : (x y : Answer) → T (contained x y) → join x y ≡ y
join-contained = all2 _ (search never)

pub merge-within : (s t : List Answer) → Within s t → merge s t ≡ t
unfolding merge
merge-within [] [] h = refl
merge-within [] (y ∷ t) h = absurd h
merge-within (x ∷ s) [] h = absurd h
merge-within (x ∷ s) (y ∷ t) h = ap₂ (λ a l. a ∷ l) (join-contained x y h.0) (merge-within s t h.1)

-- steps one after another
pub chain_grows : (f : List Answer → Answer) (n : ℕ) → StepsGrow f n → {s t : List Answer} → Chain s t → length s ≡ n → T (contained (f s) (f t))
chain_grows f n h {s} here e = contained-order.reflexive (f s)
chain_grows f n h {s} {t} (step column a k more) e =
    contained-order.transitive (f s) (f (set s column a)) (f t) (h s column a e k) (chain_grows f n h more (length-set s column a ∙ e))

pub steps_grow : (f : List Answer → Answer) (n : ℕ) → StepsGrow f n → Grows f n
steps_grow f n h =
    record {
      first = λ s t a b. chain_grows f n h (within_chain s (merge s t) (merge-left s t)) a;
      second = λ s t a b. chain_grows f n h (within_chain t (merge s t) (merge-right s t (a ∙ sym b))) b;
    }

-- the law is growth along containment, and so at each step
pub grow_within : (f : List Answer → Answer) (n : ℕ) → Grows f n → (s t : List Answer) → length s ≡ n → length t ≡ n → Within s t → T (contained (f s) (f t))
grow_within f n g s t a b w = rw (merge-within s t w) at (g.first s t a b)

pub grow_steps : (f : List Answer → Answer) (n : ℕ) → Grows f n → StepsGrow f n
grow_steps f n g s column a e k =
    grow_within f n g s (set s column a) e (length-set s column a ∙ e) (step-within s column a k)

-- and from silent everywhere, which every situation contains
silent_within : (s : List Answer) → Within (replicate (length s) Silent) s
silent_within [] = tt
silent_within (x ∷ s) = (tt, silent_within s)

pub grow_silent :
    (f : List Answer → Answer) (n : ℕ) → Grows f n → (s : List Answer) → length s ≡ n → T (contained (f (replicate n Silent)) (f s))
grow_silent f n g s e =
    grow_within f n g (replicate n Silent) s (length-replicate {A = Answer} n Silent) e
    (subst (λ k. Within (replicate k Silent) s) e (silent_within s))

-- the claim that a step adds
join_added : (x a : Answer) → T (raises x a) → join x (added x a) ≡ a
join_added = all2 _ (search never)

join_silent : (x : Answer) → join x Silent ≡ x
join_silent = each _ (search refl)

merge_silent : (s : List Answer) → merge s (replicate (length s) Silent) ≡ s
unfolding merge
merge_silent [] = refl
merge_silent (x ∷ s) = ap₂ (λ a l. a ∷ l) (join_silent x) (merge_silent s)

pub merge-alone : (s : List Answer) (column : ℕ) (a : Answer) → Step s column a → merge s (alone s column a) ≡ set s column a
unfolding merge
merge-alone [] column a k = absurd (let l = k.inside in omega arith)
merge-alone (x ∷ s) zero a k = ap₂ (λ b l. b ∷ l) (join_added x a k.raised) (merge_silent s)
merge-alone (x ∷ s) (suc column) a k =
    ap₂ (λ b l. b ∷ l) (join_silent x)
    (merge-alone s column a (record { inside = let l = k.inside in omega arith; raised = k.raised }))

-- a failing step breaks the law, at the situation and the claim that the step adds
pub failing_breaks :
    (f : List Answer → Answer) (s : List Answer) (column : ℕ) (a : Answer) →
    FailingStep f s column a →
    T (contained (f s) (f (merge s (alone s column a)))) →
    ⊥
failing_breaks f s column a h g = h.lost (rw (merge-alone s column a h.step) at g)

-- a step is a cover
cover_raises : (a b : Answer) → T (strictly a b) → (T (strictly a Bury) → T (strictly Bury b) → ⊥) → T (raises a b)
cover_raises = all2 _ (search tt)

raises-strictly : (a b : Answer) → T (raises a b) → T (strictly a b)
raises-strictly = all2 _ (search tt)

raises-next : (a b c : Answer) → T (raises a b) → T (strictly a c) → T (strictly c b) → ⊥
raises-next = all3 _ (search tt)

pub raises_cover :
    (a b : Answer) → T (raises a b) ↔ (T (strictly a b) × ((c : Answer) → T (strictly a c) → T (strictly c b) → ⊥))
raises_cover a b = (λ r. (raises-strictly a b r, λ c. raises-next a b c r), λ h. cover_raises a b h.0 (h.1 Bury))
