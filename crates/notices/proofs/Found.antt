-- The facts of a notice that is accepted are those that are found in its bytes, and a notice that is not has a number.
use Prim.Native.Nat.{ℕ, zero, suc, ◌+◌, ◌≤◌}
use mathlib.Core.Path.{◌≡◌, refl, ap}
use mathlib.Core.Bool.{Bool, true, false, cond}
use mathlib.Core.List.{List, [], ◌∷◌}
use native.Mathlib.Omega.{arith}
use lib.Dec.{eqb}
use lib.ListN.{length, drop}
use borrow.Author.Tests.{lt-ltb, le-ltb, eqb-true, eqb-false}
use Rattle.refusals.specs.Meaning.{Numbers, after}
use Rattle.notices.specs.Meaning.{Reading, facts, refused, followed, first_fact, fault, read_rest, facts_in}
use Rattle.notices.proofs.Faults.{fault-none}

abbrev pub Found : ℕ → List ℕ → Reading → Type 0
Found left s (facts fs) = facts_in left s ≡ fs
Found left s (refused r) = r.number ≡ 0 → ⊥

empty : (left : ℕ) (s : List ℕ) → length s ≡ 0 → facts_in left s ≡ []
unfolding facts_in
empty zero s h = refl
empty (suc left) s h = rw (lt-ltb (length s) 9 (omega arith))

next : (left : ℕ) (s : List ℕ) → 9 ≤ length s → (r : Reading) → Found left (drop 9 s) r → Found (suc left) s (followed (first_fact s) r)
unfolding facts_in
next left s h (facts fs) e = rw (le-ltb (length s) 9 h) (ap (λ fs. first_fact s ∷ fs) e)
next left s h (refused r) e = e

judge : (left : ℕ) (s : List ℕ) (x : Numbers) (r : Reading) → (x.number ≡ 0 → Found left s r) → Found left s (after x refused r)
judge left s x r h = go (eqb x.number 0) refl
  where
    go : (b : Bool) → eqb x.number 0 ≡ b → Found left s (cond b r (refused x))
    go true e = h (eqb-true x.number 0 e)
    go false e = eqb-false x.number 0 e

nonempty : (left : ℕ) (s : List ℕ) (e : Bool) → eqb (length s) 0 ≡ e → (r : Reading) → Found left s r → Found left s (cond e (facts []) r)
nonempty left s true e r h = empty left s (eqb-true (length s) 0 e)
nonempty left s false e r h = h

none_left : (at least : ℕ) (s : List ℕ) → (fault zero at least s).number ≡ 0 → ⊥
none_left at least s z = let h = (fault-none zero at least s z).room in omega arith

pub read_rest-found : (left at least : ℕ) (s : List ℕ) → Found left s (read_rest left at least s)
unfolding read_rest
read_rest-found zero at least s = nonempty zero s (eqb (length s) 0) refl (refused (fault zero at least s)) (none_left at least s)
read_rest-found (suc left) at least s =
    let rest = read_rest left (at + 9) ((first_fact s).number + 1) (drop 9 s) in
    nonempty (suc left) s (eqb (length s) 0) refl (after (fault (suc left) at least s) refused (followed (first_fact s) rest))
    (judge (suc left) s (fault (suc left) at least s) (followed (first_fact s) rest)
    (λ z. next left s (fault-none (suc left) at least s z).whole rest (read_rest-found left (at + 9) ((first_fact s).number + 1) (drop 9 s))))
