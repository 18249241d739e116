-- The rows that a default adds: at most one for each situation, and each as wide as the table.
use Prim.Native.Nat.{ℕ, zero, suc, ◌≤◌, ◌<◌}
use mathlib.Core.Path.{◌≡◌, ◌∙◌}
use mathlib.Core.Bool.{Bool, true, false, cond}
use mathlib.Core.List.{List, [], ◌∷◌, ◌++◌}
use lib.ListN.{length, length-map}
use native.Mathlib.Omega.{arith}
use Rattle.answers.specs.declared.Answer.{Answer}
use Rattle.situations.specs.Meaning.{weight, situation_at}
use Rattle.situations.proofs.Numbers.{situation_at-length}
use Rattle.base4.specs.Meaning.{situations_from, situations_of}
use Rattle.base4.proofs.Listing.{situations_from-length}
use Rattle.rows.specs.Meaning.{is, Row, row}
use Rattle.matching.specs.Meaning.{matched}
use Rattle.formula.specs.Meaning.{is_silent, own_row, own_rows, added_rows}

-- what holds of all rows of two lists holds of all rows of both
pub each_row :
    (P : Row → Type 0) (rows more : List Row) →
    ((i : ℕ) → i < length rows → P (row rows i)) →
    ((i : ℕ) → i < length more → P (row more i)) →
    (i : ℕ) →
    i < length (rows ++ more) →
    P (row (rows ++ more) i)
each_row P [] more f g i l = g i l
each_row P (r ∷ rows) more f g zero l = f 0 (omega arith)
each_row P (r ∷ rows) more f g (suc i) l = each_row P rows more (λ j k. f (suc j) (omega (arith, k))) g i (omega arith)

module _ (d : Answer) (rows : List Row) where
  -- what holds of no rows and of the situations' own holds of those added
  pub added_rows_either : (n : ℕ) (P : List Row → Type 0) → P [] → P (own_rows d rows (situations_of n)) → P (added_rows d n rows)
  unfolding added_rows
  added_rows_either n P none own = go (is_silent d)
    where
      go : (b : Bool) → P (cond b [] (own_rows d rows (situations_of n)))
      go true = none
      go false = own

  own_rows-few : (l : List (List Answer)) → length (own_rows d rows l) ≤ length l
  unfolding own_rows
  own_rows-few [] = omega arith
  own_rows-few (s ∷ l) = go (matched rows s) (own_rows d rows l) (own_rows-few l)
    where
      go : (b : Bool) (own : List Row) → length own ≤ length l → length (cond b own (own_row d s ∷ own)) ≤ suc (length l)
      go true own h = omega arith
      go false own h = omega arith

  pub added_rows-few : (n : ℕ) → length (added_rows d n rows) ≤ weight n
  added_rows-few n =
      added_rows_either n (λ added. length added ≤ weight n) (omega arith)
      (rw (situations_from-length n 0 (weight n)) at (own_rows-few (situations_of n)))

  abbrev Wide : ℕ → List Row → Type 0
  Wide n added = (i : ℕ) → i < length added → length (row added i).cells ≡ n

  own_rows-wide : (n w m : ℕ) → Wide n (own_rows d rows (situations_from n w m))
  unfolding own_rows situations_from
  own_rows-wide n w zero = λ i l. absurd (omega (arith, l))
  own_rows-wide n w (suc m) =
      go (matched rows (situation_at n w)) (own_rows d rows (situations_from n (suc w) m)) (own_rows-wide n (suc w) m)
    where
      go : (b : Bool) (own : List Row) → Wide n own → Wide n (cond b own (own_row d (situation_at n w) ∷ own))
      go true own h i l = h i l
      go false own h zero l = length-map (situation_at n w) is ∙ situation_at-length n w
      go false own h (suc i) l = h i (omega arith)

  pub added_rows-wide : (n : ℕ) → Wide n (added_rows d n rows)
  added_rows-wide n = added_rows_either n (Wide n) (λ i l. absurd (omega (arith, l))) (own_rows-wide n 0 (weight n))
