-- The rows that a default adds: each is that of a situation that no row matches, and every such situation has its own, in base-4 order.
use Prim.Native.Nat.{ℕ, ◌^◌, ◌≤◌, ◌<◌}
use mathlib.Core.Path.{◌≡◌, refl, ap}
use mathlib.Core.Bool.{false, cond}
use mathlib.Core.List.{List, [], ◌∷◌}
use lib.ListN.{length}
use native.Mathlib.Omega.{arith}
use Rattle.answers.specs.declared.Answer.{Answer}
use Rattle.situations.specs.Meaning.{index}
use Rattle.base4.specs.Meaning.{situations_of}
use Rattle.rows.specs.Meaning.{Row, row}
use Rattle.matching.specs.Meaning.{matched}
use Rattle.formula.specs.Meaning.{is_silent, own_row, own_rows, added_rows}
use Rattle.formula.proofs.Added.{added_rows_either}
use Rattle.selection.proofs.OwnRows.{own_rows_but, Own, own_rows-is, own_rows_rise, own_rows-once}

module _ (d : Answer) (n : ℕ) (rows : List Row) where
  -- the situations that some row matches are left out
  added_but : (situations : List (List Answer)) → own_rows_but (matched rows) (λ s. d) situations ≡ own_rows d rows situations
  unfolding own_rows own_rows_but
  added_but [] = refl
  added_but (s ∷ situations) = ap (λ own. cond (matched rows s) own (own_row d s ∷ own)) (added_but situations)

  module _ (few : n ≤ 6) where
    abbrev Added : Row → Type 0
    Added = Own (matched rows) (λ s. d) n 0 (4 ^ n)

    pub added_is : (i : ℕ) → i < length (added_rows d n rows) → Added (row (added_rows d n rows) i)
    added_is =
        added_rows_either d rows n (λ added. (i : ℕ) → i < length added → Added (row added i)) (λ i l. absurd (omega (arith, l)))
        (rw (← added_but (situations_of n)) (own_rows-is (matched rows) (λ s. d) n few))

    module _ (loud : is_silent d ≡ false) where
      pub added-once :
          (s : List Answer) →
          length s ≡ n →
          matched rows s ≡ false →
          (i : ℕ)
          × (i < length (added_rows d n rows))
          × (row (added_rows d n rows) i ≡ own_row d s)
          × ((j : ℕ) → j < length (added_rows d n rows) → row (added_rows d n rows) j ≡ own_row d s → j ≡ i)
      unfolding added_rows
      added-once = rw (loud, ← added_but (situations_of n)) (own_rows-once (matched rows) (λ s. d) n few)

      pub added_rise :
          (i j : ℕ) →
          i < j →
          j < length (added_rows d n rows) →
          (s u : List Answer) →
          row (added_rows d n rows) i ≡ own_row d s →
          row (added_rows d n rows) j ≡ own_row d u →
          index s < index u
      unfolding added_rows
      added_rise = rw (loud, ← added_but (situations_of n)) (own_rows_rise (matched rows) (λ s. d) n few)
