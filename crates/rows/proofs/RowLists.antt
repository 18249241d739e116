-- The m rows from row i on: how many they are, and each by its index.
use Prim.Native.Nat.{ℕ, zero, suc, ◌+◌, ◌<◌}
use mathlib.Core.Path.{◌≡◌, refl, ap}
use mathlib.Core.List.{List}
use lib.ListN.{length}
use native.Mathlib.Nat.{add-zero}
use native.Mathlib.Omega.{arith}
use Rattle.rows.specs.Meaning.{row, row_bytes, row_of, rows_of}

pub rows_of-length : (n : ℕ) (rows : List ℕ) (i m : ℕ) → length (rows_of n rows i m) ≡ m
unfolding rows_of
rows_of-length n rows i zero = refl
rows_of-length n rows i (suc m) = ap suc (rows_of-length n rows (suc i) m)

pub rows_of-row : (n : ℕ) (rows : List ℕ) (i m k : ℕ) → k < m → row (rows_of n rows i m) k ≡ row_of (row_bytes n rows (i + k))
unfolding rows_of
rows_of-row n rows i zero k l = absurd (omega arith)
rows_of-row n rows i (suc m) zero l = rw add-zero
rows_of-row n rows i (suc m) (suc k) l =
    let e : suc i + k ≡ i + suc k = omega arith in
    rw e at (rows_of-row n rows (suc i) m k (omega arith))
