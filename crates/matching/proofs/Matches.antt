-- A cell, a row and the rows of a part held to a situation: the ways out of the tests and loops.
use Prim.Native.Nat.{ℕ, zero, suc, ◌+◌, ◌-◌, ◌*◌, ◌≤◌, ◌<◌}
use mathlib.Core.Path.{◌≡◌, refl, ap, sym, ◌∙◌}
use mathlib.Core.Bool.{Bool, true, false, ◌&&◌, ◌||◌, and-false}
use mathlib.Core.List.{List, [], ◌∷◌, map}
use lib.Dec.{eqb}
use lib.ListN.{length, take, drop, length-map, length-take, length-drop}
use lib.Seq.{drop-drop, take-take, take-nil, length-take-le}
use borrow.Author.Tests.{lt-ltb, le-ltb}
use native.Mathlib.Nat.{zero-add}
use native.Mathlib.Numerals.{add-one}
use native.Mathlib.Omega.{arith}
use Rattle.std.specs.List.{list_all, zip}
use Rattle.answers.specs.Meaning.{number, from_number}
use Rattle.answers.specs.declared.Answer.{Answer}
use Rattle.answers.proofs.Claims.{from_number_lem}
use Rattle.situations.specs.Meaning.{answers_of}
use Rattle.rows.specs.Meaning.{Cell, cell_of, cell_matches, matches, row_width, row_count, row_bytes, cell_bytes, row_of, rows_of, rows_in}
use Rattle.rows.proofs.RowBytes.{row_bytes-take, row_count-columns, row_count-end}
use Rattle.matching.specs.Meaning.{matched}
use Rattle.matching.specs.Inside.{MatchingRows}

-- one cell
pub cell_any : (c b : ℕ) → 4 ≤ c → true ≡ cell_matches (cell_of c) (from_number b)
cell_any c b h = rw (le-ltb c 4 h)

pub cell_answer :
    (c b : ℕ) {a : Answer} {k : ℕ} →
    c < 4 →
    a ≡ from_number b →
    k ≡ number a →
    eqb c k ≡ cell_matches (cell_of c) (from_number b)
cell_answer c b h e f = rw (lt-ltb c 4 h, from_number_lem c (omega arith), f, e)

pub ruleset cell_laws = (cell_any, cell_answer)

-- a row's cells and a situation side by side
pub list_all-matches :
    (cells s : List ℕ) →
    length cells ≤ length s →
    list_all (λ x. cell_matches (cell_of x.0) (from_number x.1)) (zip cells s) ≡ matches (map cell_of cells) (answers_of s)
unfolding matches
list_all-matches [] s l = refl
list_all-matches (c ∷ cells) [] l = absurd (omega arith)
list_all-matches (c ∷ cells) (a ∷ s) l =
    ap (λ b. cell_matches (cell_of c) (from_number a) && b) (list_all-matches cells s (omega arith))

-- the cells of a row, in the part itself
drop-take : (k m n : ℕ) (l : List ℕ) → m ≡ k + n → drop k (take m l) ≡ take n (drop k l)
drop-take zero m n l e = rw (e ∙ zero-add n)
drop-take (suc k) zero n l e = absurd (omega arith)
drop-take (suc k) (suc m) n [] e = rw (take-nil n)
drop-take (suc k) (suc m) n (x ∷ l) e = drop-take k m n l (omega arith)

module _ (n : ℕ) (rows : List ℕ) (i : ℕ) (l : i < row_count n rows) where
  row-cells : take n (drop (i * row_width n + 3) rows) ≡ cell_bytes (row_bytes n rows i)
  row-cells =
      let start = i * row_width n in
      let behind = drop start rows in
      let long : length (take (row_width n) behind) ≡ row_width n =
      length-take-le (row_width n) behind (rw (length-drop start rows) (omega (arith, row_count-end n rows i l))) in
      let count : row_width n - 4 ≡ n = omega arith in
      let cut = drop-take 3 (row_width n) (n + 1) behind (omega arith) in
      rw (row_bytes-take n rows i l, long, count, cut, take-take n (n + 1) (drop 3 behind) (omega arith), drop-drop 3 start rows)

  row-wide : length (cell_bytes (row_bytes n rows i)) ≡ n
  row-wide =
      rw (← row-cells)
      (length-take-le n (drop (i * row_width n + 3) rows)
      (rw (length-drop (i * row_width n + 3) rows) (omega (arith, row_count-end n rows i l))))

-- the same with the count as it was found
module _ (n : ℕ) (rows : List ℕ) (i k : ℕ) (e : k ≡ row_count n rows) (l : i < k) where
  inside : i < row_count n rows
  inside = rw e at l

  pub cells-few : n ≤ 6
  cells-few = row_count-columns n rows i inside

  pub cells-start : i * row_width n + 3 ≤ length rows
  cells-start = omega (arith, row_count-end n rows i inside)

  pub cells-end : i * row_width n + 3 + n ≤ length rows
  cells-end = omega (arith, row_count-end n rows i inside)

  pub part_wide :
      (s : List ℕ) →
      n ≤ length s →
      length (take (i * row_width n + 3 + n - (i * row_width n + 3)) (drop (i * row_width n + 3) rows)) ≤ length s
  part_wide s h = simp length-take (omega arith)

  pub part_is :
      {b : Bool} (s : List Answer) →
      b ≡ matches (map cell_of (take (i * row_width n + 3 + n - (i * row_width n + 3)) (drop (i * row_width n + 3) rows))) s →
      b ≡ matches (row_of (row_bytes n rows i)).cells s
  part_is s f =
      let size : i * row_width n + 3 + n - (i * row_width n + 3) ≡ n = omega arith in
      rw (size, row-cells n rows i inside) at f

-- a situation with fewer answers than a row has cells does not match it
matches-short : (cells : List Cell) (t : List Answer) → length t < length cells → matches cells t ≡ false
unfolding matches
matches-short [] t h = absurd (omega arith)
matches-short (c ∷ cells) [] h = refl
matches-short (c ∷ cells) (a ∷ t) h = rw (matches-short cells t (omega arith)) (and-false (cell_matches c a))

-- the loop over the rows
module _ (n : ℕ) (rows : List ℕ) (s : List Answer) where
  short_from : length s < n → (i m : ℕ) → i + m ≤ row_count n rows → matched (rows_of n rows i m) s ≡ false
  unfolding matched rows_of
  short_from h i zero l = refl
  short_from h i (suc m) l =
      let wide = length-map (cell_bytes (row_bytes n rows i)) cell_of ∙ row-wide n rows i (omega arith) in
      rw (matches-short (map cell_of (cell_bytes (row_bytes n rows i))) s (omega arith))
      (short_from h (suc i) m (omega arith))

  pub rows_none : MatchingRows n rows s 0
  rows_none =
      let all : row_count n rows - 0 ≡ row_count n rows = omega arith in
      record { inside = omega arith; rest = rw all refl }

  module _ (i : ℕ) (w : MatchingRows n rows s i) {k : ℕ} (f : k ≡ row_count n rows) where
    pub rows_all : k ≤ i → false ≡ matched (rows_in n rows) s
    unfolding matched rows_of
    rows_all l =
        let none : row_count n rows - i ≡ 0 = omega arith in
        rw none at w.rest

    module _ (l : i < k) {b : Bool} (e : b ≡ matches (row_of (row_bytes n rows i)).cells s) where
      next : (b || matched (rows_of n rows (suc i) (row_count n rows - suc i)) s) ≡ matched (rows_in n rows) s
      unfolding matched rows_of
      next =
          let left : row_count n rows - i ≡ suc (row_count n rows - suc i) = omega arith in
          rw (left, ← e) at w.rest

      pub rows-found : b ≡ true → true ≡ matched (rows_in n rows) s
      rows-found h = rw h at next

      pub rows_more : b ≡ false → MatchingRows n rows s (i + 1)
      rows_more h = record { inside = omega arith; rest = rw (add-one i) (rw h at next) }

pub rows_short : (n : ℕ) (rows s : List ℕ) → length s < n → false ≡ matched (rows_in n rows) (answers_of s)
rows_short n rows s h =
    let long = length-map s from_number in
    sym (short_from n rows (answers_of s) (omega arith) 0 (row_count n rows) (omega arith))
