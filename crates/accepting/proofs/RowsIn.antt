-- The rows that a part holds: the first of them, then those of the part behind it; how many they are, and each by its index.
use Prim.Native.Nat.{ℕ, zero, suc, ◌+◌, ◌*◌, ◌≤◌, ◌<◌}
use mathlib.Core.Path.{◌≡◌, refl, ap, ap₂, sym, ◌∙◌}
use mathlib.Core.Bool.{Bool, true, false, cond}
use mathlib.Core.List.{List, [], ◌∷◌}
use lib.Dec.{ltb}
use lib.ListN.{length, take, drop}
use lib.Seq.{drop-drop}
use borrow.Author.Tests.{lt-ltb, le-ltb, ltb-true, ltb-false}
use native.Mathlib.Nat.{suc-mul, zero-mul, zero-add}
use native.Mathlib.Omega.{arith}
use Rattle.rows.specs.Meaning.{row, row_width, row_count, row_bytes, row_of, rows_of, rows_in}
use Rattle.rows.proofs.RowBytes.{row_count-none, row_count-next, row_bytes-take}
use Rattle.rows.proofs.RowLists.{rows_of-length, rows_of-row}

module _ (n : ℕ) (rows : List ℕ) where
  -- by index
  pub rows_in-length : length (rows_in n rows) ≡ row_count n rows
  rows_in-length = rows_of-length n rows 0 (row_count n rows)

  pub rows_in-row : (i : ℕ) → i < row_count n rows → row (rows_in n rows) i ≡ row_of (row_bytes n rows i)
  rows_in-row i l = rows_of-row n rows 0 (row_count n rows) i l ∙ ap (λ k. row_of (row_bytes n rows k)) (zero-add i)

  pub rows_in-none : length rows ≡ 0 → rows_in n rows ≡ []
  unfolding rows_of
  rows_in-none z = rw (row_count-none n rows z)

  -- by the front
  module _ (few : n ≤ 6) (long : row_width n ≤ length rows) where
    next : row_count n rows ≡ suc (row_count n (drop (row_width n) rows))
    next = row_count-next n rows few long

    row_bytes-first : row_bytes n rows 0 ≡ take (row_width n) rows
    row_bytes-first = row_bytes-take n rows 0 (let e = next in omega arith) ∙ (rw zero-mul)

    row_bytes-next : (i : ℕ) → row_bytes n rows (suc i) ≡ row_bytes n (drop (row_width n) rows) i
    unfolding row_bytes
    row_bytes-next i = go (ltb i (row_count n (drop (row_width n) rows))) refl
      where
        place : drop (suc i * row_width n) rows ≡ drop (i * row_width n) (drop (row_width n) rows)
        place =
            let e : suc i * row_width n ≡ row_width n + i * row_width n = omega (arith, suc-mul i (row_width n)) in
            rw e (sym (drop-drop (i * row_width n) (row_width n) rows))

        go :
            (b : Bool) →
            ltb i (row_count n (drop (row_width n) rows)) ≡ b →
            cond (ltb (suc i) (row_count n rows)) (take (row_width n) (drop (suc i * row_width n) rows)) []
            ≡ cond (ltb i (row_count n (drop (row_width n) rows))) (take (row_width n) (drop (i * row_width n) (drop (row_width n) rows))) []
        go true e =
            let l : i < row_count n (drop (row_width n) rows) = ltb-true i (row_count n (drop (row_width n) rows)) e in
            let k = next in
            rw (e, lt-ltb (suc i) (row_count n rows) (omega arith)) (ap (take (row_width n)) place)
        go false e =
            let l : row_count n (drop (row_width n) rows) ≤ i = ltb-false i (row_count n (drop (row_width n) rows)) e in
            let k = next in
            rw (e, le-ltb (suc i) (row_count n rows) (omega arith))

    rows_of-next : (i m : ℕ) → rows_of n rows (suc i) m ≡ rows_of n (drop (row_width n) rows) i m
    unfolding rows_of
    rows_of-next i zero = refl
    rows_of-next i (suc m) = ap₂ ◌∷◌ (ap row_of (row_bytes-next i)) (rows_of-next (suc i) m)

    pub rows_in-next : rows_in n rows ≡ row_of (take (row_width n) rows) ∷ rows_in n (drop (row_width n) rows)
    unfolding rows_of
    rows_in-next =
        rw next
        (ap₂ ◌∷◌ (ap row_of row_bytes-first) (rows_of-next 0 (row_count n (drop (row_width n) rows))))
