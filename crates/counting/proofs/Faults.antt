-- The fault of a field: its numbers and its place, and what the number of notices still allowed has to do with it.
use Prim.Native.Nat.{ℕ, ◌≤◌, ◌<◌}
use mathlib.Core.Path.{◌≡◌, refl}
use mathlib.Core.Logic.{◌⊎◌, inl, inr, ◌↔◌}
use mathlib.Core.Bool.{Bool, true, false}
use mathlib.Core.List.{List}
use native.Mathlib.Omega.{arith}
use lib.Dec.{ltb, eqb}
use lib.ListN.{length}
use borrow.Author.Tests.{le-ltb, ltb-false, eq-eqb, ne_eqb, eqb-true}
use Rattle.refusals.specs.Meaning.{refused, SHORT, TAG, LEN, WEEK}
use Rattle.fields.specs.Meaning.{tag, size, short_header, short_value}
use Rattle.batches.specs.Meaning.{fault}
use Rattle.batches.proofs.Faults.{fault-none}
use Rattle.counting.proofs.Firsts.{judged}

-- the four numbers
abbrev pub Refuses : ℕ → Type 0
Refuses k = (k ≡ SHORT) ⊎ ((k ≡ TAG) ⊎ ((k ≡ WEEK) ⊎ (k ≡ LEN)))

module _ (at : ℕ) where
  judged_place : (a b c d e : Bool) → ((judged at a b c d e).number ≡ 0 → ⊥) → judged at a b c d e ≡ refused (judged at a b c d e).number at
  judged_place true b c d e h = refl
  judged_place false false c d e h = refl
  judged_place false true true d e h = refl
  judged_place false true false true e h = refl
  judged_place false true false false true h = refl
  judged_place false true false false false h = absurd (h refl)

  judged_number : (a b c d e : Bool) → ((judged at a b c d e).number ≡ 0 → ⊥) → Refuses (judged at a b c d e).number
  judged_number true b c d e h = inl refl
  judged_number false false c d e h = inr (inl refl)
  judged_number false true true d e h = inr (inr (inl refl))
  judged_number false true false true e h = inr (inr (inr refl))
  judged_number false true false false true h = inl refl
  judged_number false true false false false h = absurd (h refl)

  judged_full : (a b c d e : Bool) →
      ((judged at a b true d e).number ≡ (judged at a b c d e).number) ⊎ ((judged at a b true d e).number ≡ WEEK)
  judged_full true b c d e = inl refl
  judged_full false false c d e = inl refl
  judged_full false true c d e = inr refl

  judged_week : (a b c d e : Bool) → (judged at a b c d e).number ≡ WEEK → (a ≡ false) × (b ≡ true) × (c ≡ true)
  judged_week true b c d e h = absurd (omega (arith, h))
  judged_week false false c d e h = absurd (omega (arith, h))
  judged_week false true true d e h = (refl, refl, refl)
  judged_week false true false true e h = absurd (omega (arith, h))
  judged_week false true false false true h = absurd (omega (arith, h))
  judged_week false true false false false h = absurd (omega (arith, h))

  module _ (s : List ℕ) where
    -- its place is the field's offset, its second number 0
    pub fault-place : (left : ℕ) → ((fault left at s).number ≡ 0 → ⊥) → fault left at s ≡ refused (fault left at s).number at
    unfolding fault
    fault-place left =
        judged_place (short_header s) (eqb (tag s) 17) (eqb left 0) (ltb 288 (size s)) (short_value (size s) s)

    pub fault-number : (left : ℕ) → ((fault left at s).number ≡ 0 → ⊥) → Refuses (fault left at s).number
    unfolding fault
    fault-number left =
        judged_number (short_header s) (eqb (tag s) 17) (eqb left 0) (ltb 288 (size s)) (short_value (size s) s)

    -- how many notices are left does not matter, but for whether there are any
    pub fault-room : (m n : ℕ) → 0 < m → 0 < n → fault m at s ≡ fault n at s
    unfolding fault
    fault-room m n h i = rw (ne_eqb m 0 (λ e. omega (arith, e, h)), ne_eqb n 0 (λ e. omega (arith, e, i)))

    pub fault-full : (left : ℕ) → ((fault 0 at s).number ≡ (fault left at s).number) ⊎ ((fault 0 at s).number ≡ WEEK)
    unfolding fault
    fault-full left =
        judged_full (short_header s) (eqb (tag s) 17) (eqb left 0) (ltb 288 (size s)) (short_value (size s) s)

    pub full_loud : (fault 0 at s).number ≡ 0 → ⊥
    full_loud z = let r = (fault-none 0 at s z).room in omega arith

    -- a notice too many: nothing is left, and the header is a notice's
    pub fault_week : (left : ℕ) → ((fault left at s).number ≡ WEEK) ↔ ((left ≡ 0) × ((3 ≤ length s) × (tag s ≡ 17)))
    unfolding fault
    fault_week left = (
      λ h.
          let t = judged_week (short_header s) (eqb (tag s) 17) (eqb left 0) (ltb 288 (size s)) (short_value (size s) s) h in
          (eqb-true left 0 t.2, (ltb-false (length s) 3 t.0, eqb-true (tag s) 17 t.1)),
      λ h. rw (le-ltb (length s) 3 h.1.0, eq-eqb (tag s) 17 h.1.1, eq-eqb left 0 h.0),
    )
