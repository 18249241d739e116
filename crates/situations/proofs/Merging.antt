-- Merging is the least situation that contains both, the same in any order and grouping, and twice is once.
use Prim.Native.Nat.{suc}
use mathlib.Core.Path.{◌≡◌, refl, ap, ap₂}
use mathlib.Core.List.{List, [], ◌∷◌}
use lib.ListN.{length}
use native.Mathlib.Omega.{arith}
use Rattle.answers.specs.declared.Answer.{Answer}
use Rattle.answers.proofs.Laws.{contained-order, join-least, join_comm, join_assoc, join-same}
use Rattle.situations.specs.Meaning.{merge, Within}

pub within-refl : (s : List Answer) → Within s s
within-refl [] = tt
within-refl (x ∷ s) = (contained-order.reflexive x, within-refl s)

pub within_trans : (s t u : List Answer) → Within s t → Within t u → Within s u
within_trans [] [] [] h k = tt
within_trans (x ∷ s) (y ∷ t) (z ∷ u) h k = (contained-order.transitive x y z h.0 k.0, within_trans s t u h.1 k.1)
within_trans [] [] (z ∷ u) h k = k
within_trans [] (y ∷ t) u h k = absurd h
within_trans (x ∷ s) [] u h k = absurd h
within_trans (x ∷ s) (y ∷ t) [] h k = absurd k

pub within-length : (s t : List Answer) → Within s t → length s ≡ length t
within-length [] [] h = refl
within-length (x ∷ s) (y ∷ t) h = ap suc (within-length s t h.1)
within-length [] (y ∷ t) h = absurd h
within-length (x ∷ s) [] h = absurd h

pub merge-length : (s t : List Answer) → length (merge s t) ≡ length s
unfolding merge
merge-length [] t = refl
merge-length (x ∷ s) [] = refl
merge-length (x ∷ s) (y ∷ t) = ap suc (merge-length s t)

pub merge-left : (s t : List Answer) → Within s (merge s t)
unfolding merge
merge-left [] t = tt
merge-left (x ∷ s) [] = within-refl (x ∷ s)
merge-left (x ∷ s) (y ∷ t) = (join-least.left x y, merge-left s t)

pub merge-right : (s t : List Answer) → length s ≡ length t → Within t (merge s t)
unfolding merge
merge-right [] [] e = tt
merge-right [] (y ∷ t) e = absurd (omega arith)
merge-right (x ∷ s) [] e = absurd (omega arith)
merge-right (x ∷ s) (y ∷ t) e = (join-least.right x y, merge-right s t (omega arith))

pub merge-least : (s t u : List Answer) → Within s u → Within t u → Within (merge s t) u
unfolding merge
merge-least [] t u h k = h
merge-least (x ∷ s) [] u h k = h
merge-least (x ∷ s) (y ∷ t) [] h k = absurd h
merge-least (x ∷ s) (y ∷ t) (z ∷ u) h k = (join-least.greatest x y z h.0 k.0, merge-least s t u h.1 k.1)

pub merge_comm : (s t : List Answer) → length s ≡ length t → merge s t ≡ merge t s
unfolding merge
merge_comm [] [] e = refl
merge_comm [] (y ∷ t) e = absurd (omega arith)
merge_comm (x ∷ s) [] e = absurd (omega arith)
merge_comm (x ∷ s) (y ∷ t) e = ap₂ (λ a l. a ∷ l) (join_comm x y) (merge_comm s t (omega arith))

pub merge_assoc : (s t u : List Answer) → length s ≡ length t → length t ≡ length u → merge (merge s t) u ≡ merge s (merge t u)
unfolding merge
merge_assoc [] t u e f = refl
merge_assoc (x ∷ s) [] u e f = absurd (omega arith)
merge_assoc (x ∷ s) (y ∷ t) [] e f = refl
merge_assoc (x ∷ s) (y ∷ t) (z ∷ u) e f = ap₂ (λ a l. a ∷ l) (join_assoc x y z) (merge_assoc s t u (omega arith) (omega arith))

pub merge-same : (s : List Answer) → merge s s ≡ s
unfolding merge
merge-same [] = refl
merge-same (x ∷ s) = ap₂ (λ a l. a ∷ l) (join-same x) (merge-same s)
