-- The rows of a part as they are written, one behind another.
use Prim.Native.Nat.{ℕ, suc, ◌+◌, ◌-◌, ◌≤◌, ◌<◌}
use mathlib.Core.Path.{◌≡◌}
use mathlib.Core.Bool.{cond}
use mathlib.Core.List.{List, [], ◌∷◌, map}
use lib.Dec.{eqb}
use lib.ListN.{length}
use native.Mathlib.Numerals.{add-one}
use native.Mathlib.Omega.{arith}
use Rattle.lent.specs.Inside.{Wrote}
use Rattle.answers.specs.declared.Answer.{Answer}
use Rattle.rows.specs.Meaning.{Row, cell_bytes, outcome_of, row_count, row_bytes, rows_of, rows_in}
use Rattle.formula.specs.Meaning.{row_nodes, rows_left, is_silent}
use Rattle.writing.specs.Inside.{limit, row_with, row_step, row_parts, rows_step, WritingParts, WritingRows}
use Rattle.writing.proofs.Parts.{parts_start, parts_ended}
use Rattle.writing.proofs.Rows.{loud_not_silent, row_fits, row_written}
use Rattle.writing.proofs.Tables.{cells_six}

-- a row has at most six cells
pub cells-few : (n : ℕ) (rows : List ℕ) (i : ℕ) {r cells : List ℕ} → r ≡ row_bytes n rows i → cells ≡ cell_bytes r → length cells ≤ 6
cells-few n rows i e f = rw (f, e) (cells_six n rows i)

-- the loop over the rows of a part
pub rows_start : (n : ℕ) (rows b : List ℕ) (at : ℕ) → WritingRows rows n b at b at 0
rows_start n rows b at =
    let all : row_count n rows - 0 ≡ row_count n rows = omega arith in
    record { inside = omega arith; left = rw all (parts_start (row_parts (rows_in n rows)) b 0 at (omega arith)) }

module _ (n : ℕ) (rows : List ℕ) {old new : List ℕ} {at next : ℕ} (i : ℕ) (w : WritingRows rows n old at new next i) where
  abbrev Left : List ℕ → ℕ → List Row → Type 0
  Left b q left = WritingParts 7 [] (rows_step (eqb at 0) (rows_in n rows)) old 0 at b q (map row_nodes left)

  module _
      {k : ℕ} (count : k ≡ row_count n rows) (l : i < k) {b cells : List ℕ} {j : Answer}
      (e : b ≡ row_bytes n rows i) (f : cells ≡ cell_bytes b) (g : j ≡ outcome_of b)
    where
      rest : List Row
      rest = rows_left (rows_of n rows (suc i) (row_count n rows - suc i))

      one-row : Left new next (cond (is_silent j) rest (row_with cells j ∷ rest))
      unfolding rows_of rows_left rest
      one-row =
          let left : row_count n rows - i ≡ suc (row_count n rows - suc i) = omega arith in
          rw (g, f, e) (rw left at w.left)

      pub next_row_within :
          at + length (rows_step (eqb at 0) (rows_in n rows)) ≤ limit →
          next + length (row_step (eqb next 0) (row_with cells j)) ≤ limit
      next_row_within room = row_fits (is_silent j) (row_with cells j) rest one-row room

      pub rows_more :
          {c : List ℕ} {q : ℕ} →
          Wrote new next (row_step (eqb next 0) (row_with cells j)) c q →
          WritingRows rows n old at c q (i + 1)
      unfolding rest
      rows_more v =
          record {
            inside = omega arith;
            left = rw (add-one i) (row_written (is_silent j) (row_with cells j) rest one-row (loud_not_silent j) v);
          }

  pub rows-done : {k : ℕ} → k ≡ row_count n rows → k ≤ i → Wrote old at (rows_step (eqb at 0) (rows_in n rows)) new next
  unfolding rows_of rows_left
  rows-done count l =
      let none : row_count n rows - i ≡ 0 = omega arith in
      parts_ended (rw none at w.left)
