-- What the comparisons and the tests for presence in a voice may come to, and where their numbers stand.
use Prim.Native.Nat.{ℕ, ◌+◌, ◌-◌, ◌≤◌, ◌<◌}
use mathlib.Core.Path.{◌≡◌, refl, sym, ap, ◌∙◌}
use mathlib.Core.Bool.{Bool}
use mathlib.Core.List.{List, [], ◌∷◌}
use native.Mathlib.Omega.{arith}
use native.Mathlib.Nat.{add_assoc}
use lib.ListN.{length, get_or}
use Rattle.std.proofs.Common.{Option, Some, None, is_some}
use borrow.Author.Tests.{lt-ltb, le-ltb}
use Rattle.refusals.specs.Meaning as refusal
use Rattle.refusals.specs.Meaning.{Numbers, CUT}
use Rattle.fields.specs.Meaning.{two, four, two_at, four_at}
use Rattle.notices.specs.declared.Comparison.{Comparison}
use Rattle.notices.specs.Meaning.{Fact, seen, present}
use Rattle.truths.specs.Meaning.{truth_set}
use Rattle.trees.specs.Meaning.{may_hold, may_compare, comparison_at, present_at, made, refused}
use Rattle.leaves.specs.Meaning.{held}

-- A fact is present where it is there.
present_some : (s : Option ℕ) → present s ≡ is_some s
present_some None = refl
present_some (Some x) = refl

-- A number that starts some bytes after an offset.
pub two-after : (v : List ℕ) (at k : ℕ) → two_at v (at + k) ≡ two (get_or v (at + k) 0) (get_or v (at + (k + 1)) 0)
two-after v at k = ap (λ i. two (get_or v (at + k) 0) (get_or v i 0)) (add_assoc at k 1)

pub four-after : (v : List ℕ) (at k : ℕ) →
    four_at v (at + k) ≡ four (get_or v (at + k) 0) (get_or v (at + (k + 1)) 0) (get_or v (at + (k + 2)) 0) (get_or v (at + (k + 3)) 0)
four-after v at k = rw (add_assoc at k 1, add_assoc at k 2, add_assoc at k 3)

module _ (fs : List Fact) (v : List ℕ) (at : ℕ) {left : ℕ} (from : left ≡ length v - at) where
  module _ {r : Numbers} (w : r ≡ refusal.refused CUT at) where
    pub compared_cut : (c : Comparison) → left < 7 → refused r ≡ held fs (comparison_at v at c)
    unfolding held comparison_at
    compared_cut c h = rw (lt-ltb (length v) (at + 7) (omega (arith, from)), w)

    pub present_cut : left < 3 → refused r ≡ held fs (present_at v at)
    unfolding held present_at
    present_cut h = rw (lt-ltb (length v) (at + 3) (omega (arith, from)), w)

  module _ {fact : ℕ} {s : Option ℕ} {r : ℕ} (e : fact ≡ two (get_or v (at + 1) 0) (get_or v (at + 2) 0)) (f : s ≡ seen fs fact) where
    pub compared_is : (c : Comparison) {value : ℕ} → 7 ≤ left →
        value ≡ four (get_or v (at + 3) 0) (get_or v (at + 4) 0) (get_or v (at + 5) 0) (get_or v (at + 6) 0) →
        r ≡ truth_set (may_compare c s value) → made r (at + 7) ≡ held fs (comparison_at v at c)
    unfolding held comparison_at may_hold
    compared_is c h g w = rw (le-ltb (length v) (at + 7) (omega (arith, from)), two-after v at 1, four-after v at 3, w, f, e, g)

    pub present-is : {b : Bool} → 3 ≤ left → b ≡ is_some s → r ≡ truth_set (b ∷ []) → made r (at + 3) ≡ held fs (present_at v at)
    unfolding held present_at may_hold
    present-is {b} h g w =
        let p : b ≡ present s = g ∙ sym (present_some s) in
        rw (le-ltb (length v) (at + 3) (omega (arith, from)), two-after v at 1, w, p, f, e)

-- What `compared_at` returns.
pub ruleset compared_laws = (compared_cut, compared_is)

-- What `present_at` returns.
pub ruleset present_laws = (present_cut, present-is)
