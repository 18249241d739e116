-- One situation is contained in another exactly when a chain of steps leads from it there.
use Prim.Native.Nat.{ℕ, zero, suc}
use mathlib.Core.List.{List, [], ◌∷◌}
use lib.Dec.{T}
use lib.ListN.{set}
use native.Mathlib.Omega.{arith}
use Rattle.answers.specs.Meaning.{contained}
use Rattle.answers.specs.declared.Answer.{Answer}
use Rattle.answers.specs.declared.Answer.TheVariants.{Silent, Bury, Clash}
use Rattle.answers.proofs.Every.{all2}
use Rattle.situations.specs.Meaning.{Within, raises, Step, Chain, here, step}
use Rattle.situations.proofs.Merging.{within-refl, within_trans}

-- a step leads to a situation that contains the one before
raises-contained : (x y : Answer) → T (raises x y) → T (contained x y)
raises-contained = all2 _ (search tt)

pub step-within : (s : List Answer) (column : ℕ) (a : Answer) → Step s column a → Within s (set s column a)
step-within [] column a h = absurd (let l = h.inside in omega arith)
step-within (x ∷ s) zero a h = (raises-contained x a h.raised, within-refl s)
step-within (x ∷ s) (suc column) a h =
    ((Rattle.answers.proofs.Laws.contained-order).reflexive x, step-within s column a (record { inside = let l = h.inside in omega arith; raised = h.raised }))

pub chain_within : {s t : List Answer} → Chain s t → Within s t
chain_within {s} here = within-refl s
chain_within {s} {t} (step column a h k) = within_trans s (set s column a) t (step-within s column a h) (chain_within k)

-- a chain in the later columns is one in all columns
chain_cons : (x : Answer) {s t : List Answer} → Chain s t → Chain (x ∷ s) (x ∷ t)
chain_cons x here = here
chain_cons x {s} (step column a h k) =
    step {s = x ∷ s} (suc column) a (record { inside = let l = h.inside in omega arith; raised = h.raised }) (chain_cons x k)

-- one column is raised by at most two steps
module _ (s t : List Answer) where
  up : (x y : Answer) → T (raises x y) → Chain (y ∷ s) t → Chain (x ∷ s) t
  up x y h k = step {s = x ∷ s} 0 y (record { inside = omega arith; raised = h }) k

  up_twice : Chain (Clash ∷ s) t → Chain (Silent ∷ s) t
  up_twice k = up Silent Bury tt (up Bury Clash tt k)

  up_never : {x y : Answer} → ⊥ → Chain (y ∷ s) t → Chain (x ∷ s) t
  up_never h = absurd h

  chain_first : (x y : Answer) → T (contained x y) → Chain (y ∷ s) t → Chain (x ∷ s) t
  chain_first = all2 _ (search (tt, up, up_twice, up_never))

pub within_chain : (s t : List Answer) → Within s t → Chain s t
within_chain [] [] h = here
within_chain (x ∷ s) (y ∷ t) h = chain_first s (y ∷ t) x y h.0 (chain_cons y (within_chain s t h.1))
within_chain [] (y ∷ t) h = absurd h
within_chain (x ∷ s) [] h = absurd h
