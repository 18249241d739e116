-- Joining in place, one byte after another, is merging.
use Prim.Native.Nat.{ℕ, zero, suc, ◌+◌, ◌≤◌, ◌<◌}
use native.Mathlib.Numerals.{add-one}
use mathlib.Core.Path.{◌≡◌, refl, ap, sym, ◌∙◌}
use mathlib.Core.List.{List, [], ◌∷◌}
use lib.ListN.{length, take, get_or, set}
use lib.Seq.{length-take-le}
use native.Mathlib.Omega.{arith}
use Rattle.situations.specs.Meaning.{merge, merge_bytes}
use Rattle.situations.specs.Inside.{join_numbers, joined_to, Joining}

joined_to-cons : (n x y : ℕ) (s t : List ℕ) → joined_to (suc n) (x ∷ s) (y ∷ t) ≡ join_numbers x y ∷ joined_to n s t
unfolding joined_to
joined_to-cons zero x y s t = refl
joined_to-cons (suc n) x y s t = rw (joined_to-cons n x y s t)

pub joined_to_merges : (n : ℕ) (s t : List ℕ) → n ≤ length s → n ≤ length t → joined_to n s t ≡ merge_bytes n s t
unfolding joined_to merge_bytes merge
joined_to_merges zero s t h k = refl
joined_to_merges (suc n) [] t h k = absurd (omega arith)
joined_to_merges (suc n) (x ∷ s) [] h k = absurd (omega arith)
joined_to_merges (suc n) (x ∷ s) (y ∷ t) h k =
    joined_to-cons n x y s t ∙ ap (λ l. join_numbers x y ∷ l) (joined_to_merges n s t (omega arith) (omega arith))

pub joining_none : (s t : List ℕ) (n : ℕ) → Joining s t n s 0
unfolding joined_to
joining_none s t n = record { counted = omega arith; so_far = refl }

pub joining_more :
    (s t : List ℕ) (n i v : ℕ) {merged : List ℕ} →
    Joining s t n merged i →
    i < n →
    v ≡ join_numbers (get_or s i 0) (get_or t i 0) →
    Joining s t n (set merged i v) (i + 1)
unfolding joined_to
joining_more s t n i v j l e = record { counted = omega arith; so_far = rw (add-one, j.so_far, e) }

pub joining_all :
    (s t : List ℕ) (n i : ℕ) {merged : List ℕ} →
    Joining s t n merged i →
    n ≤ i →
    n ≤ 6 →
    length s ≡ 6 →
    length t ≡ 6 →
    merged ≡ merge_bytes n s t
joining_all s t n i j l h a b =
    let e : i ≡ n = omega arith in
    j.so_far ∙ (rw e (joined_to_merges n s t (omega arith) (omega arith)))

-- a prefix of the six answers of a situation by value
pub prefix_inside : (s : List ℕ) (n : ℕ) → length s ≡ 6 → n ≤ 6 → n ≤ length s
prefix_inside s n e h = omega arith

pub prefix_long : (s : List ℕ) (n : ℕ) → length s ≡ 6 → n ≤ 6 → n ≡ length (take n s)
prefix_long s n e h = sym (length-take-le n s (omega arith))
