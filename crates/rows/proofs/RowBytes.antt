-- How many rows a part holds, and the bytes, the cells and the outcome of one.
use Prim.Native.Nat.{ℕ, suc, ◌+◌, ◌-◌, ◌*◌, ◌/◌, ◌≤◌, ◌<◌}
use mathlib.Core.Path.{◌≡◌, refl, sym}
use mathlib.Core.Bool.{Bool, true, false, cond}
use mathlib.Core.List.{List, []}
use lib.Dec.{ltb}
use lib.ListN.{length, take, drop, length-take, length-drop}
use borrow.Author.Tests.{lt-ltb, le-ltb, ltb-true, ltb-false}
use native.Mathlib.Nat.{add-sub_cancel_left, mul-le-mul_right, suc-mul, zero-div, div-eq-sub-div, div-mul-le_self}
use native.Mathlib.Omega.{arith}
use Rattle.rows.specs.Meaning.{row_width, row_count, row_bytes, cell_bytes}

module _ (n : ℕ) (rows : List ℕ) where
  pub row_count-is : n ≤ 6 → length rows / row_width n ≡ row_count n rows
  unfolding row_count
  row_count-is h = rw (le-ltb 6 n h)

  -- where there is a row, there are at most 6 columns, and it ends within the part
  pub row_count-columns : (i : ℕ) → i < row_count n rows → n ≤ 6
  unfolding row_count
  row_count-columns i l = go (ltb 6 n) refl l
    where
      go : (b : Bool) → ltb 6 n ≡ b → i < cond (ltb 6 n) 0 (length rows / row_width n) → n ≤ 6
      go true e l = absurd (let z : i < 0 = rw e at l in omega arith)
      go false e l = ltb-false 6 n e

  pub row_count-end : (i : ℕ) → i < row_count n rows → i * row_width n + row_width n ≤ length rows
  row_count-end i l =
      let few = row_count-columns i l in
      let k : i < length rows / row_width n = rw (row_count-is few) l in
      omega (arith, mul-le-mul_right (row_width n) k, suc-mul i (row_width n), div-mul-le_self (length rows) (row_width n))

  -- a part without bytes holds none, and behind a row there is one less
  pub row_count-none : length rows ≡ 0 → row_count n rows ≡ 0
  unfolding row_count
  row_count-none z = rw (z, zero-div (row_width n)) (go (ltb 6 n) 0)
    where
      go : (b : Bool) (k : ℕ) → cond b k k ≡ k
      go true k = refl
      go false k = refl

  pub row_count-next : n ≤ 6 → row_width n ≤ length rows → row_count n rows ≡ suc (row_count n (drop (row_width n) rows))
  unfolding row_count
  row_count-next few long =
      rw (le-ltb 6 n few, length-drop, div-eq-sub-div (omega arith) long)
      (omega arith)

  pub row_bytes-take : (i : ℕ) → i < row_count n rows → row_bytes n rows i ≡ take (row_width n) (drop (i * row_width n) rows)
  unfolding row_bytes
  row_bytes-take i l = rw (lt-ltb i (row_count n rows) l)

  -- a row has at most 6 cells
  pub row_bytes-few : (i : ℕ) → length (row_bytes n rows i) ≤ 10
  unfolding row_bytes
  row_bytes-few i = go (ltb i (row_count n rows)) refl
    where
      go : (b : Bool) → ltb i (row_count n rows) ≡ b → length (cond b (take (row_width n) (drop (i * row_width n) rows)) []) ≤ 10
      go true e = let few = row_count-columns i (ltb-true i (row_count n rows) e) in simp length-take (omega arith)
      go false e = omega arith

  pub row_bytes_part :
      (i : ℕ) →
      i < row_count n rows →
      take (i * row_width n + row_width n - i * row_width n) (drop (i * row_width n) rows) ≡ row_bytes n rows i
  row_bytes_part i l = rw add-sub_cancel_left (sym (row_bytes-take i l))

pub cell_bytes-few : (b : List ℕ) → length b ≤ 10 → length (cell_bytes b) ≤ 6
cell_bytes-few b h = simp length-take (omega arith)
