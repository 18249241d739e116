-- Without a default other than silent no table needs more than 4,223 nodes: ten at the most for a selector, 65 for a row of six,
-- and 64 rows with their joins.
use Prim.Native.Nat.{ℕ, ◌+◌, ◌*◌, ◌≤◌, ◌<◌}
use mathlib.Core.Path.{◌≡◌, ap}
use mathlib.Core.List.{List, [], ◌∷◌, append-nil}
use lib.ListN.{length}
use native.Mathlib.Nat.{mul_assoc, mul-le-mul_left}
use native.Mathlib.Omega.{arith}
use Rattle.answers.specs.declared.Answer.{Answer}
use Rattle.answers.specs.declared.Answer.TheVariants.{Silent}
use Rattle.answers.proofs.Every.{all2}
use Rattle.rows.specs.Meaning.{Cell, is, any, Row, row}
use Rattle.defaults.specs.Meaning.{default_answer}
use Rattle.tables.specs.Meaning.{Table, WellFormed}
use Rattle.formula.specs.Meaning.{rows_nodes, added_rows, table_rows, table_nodes}
use Rattle.formula.specs.Meaning.{selector_size, total, rows_size, table_size}
use Rattle.formula.proofs.Shares.{total-most, cell_share, cell_shares, share, row_share, rows_shares}

pub selector_size-most : (a j : Answer) → selector_size a j ≤ 10
unfolding selector_size
selector_size-most = all2 _ (search arith)

cells-most : (j : Answer) (cells : List Cell) → cell_shares j cells ≤ 11 * length cells
unfolding total cell_share
cells-most j [] = omega arith
cells-most j (is a ∷ cells) = let rest = cells-most j cells in omega (arith, selector_size-most a j)
cells-most j (any ∷ cells) = let rest = cells-most j cells in omega arith

-- at most m rows of at most c cells each
pub rows-most :
    (c : ℕ) (rows : List Row) (m : ℕ) →
    1 ≤ c →
    1 ≤ m →
    length rows ≤ m →
    ((i : ℕ) → i < length rows → length (row rows i).cells ≤ c) →
    rows_size rows + 1 ≤ 11 * c * m
rows-most c rows m wide some l w =
    let k : ℕ = 11 * c in
    let all = total-most share (64 * k) rows (record { cells = []; outcome = Silent }) (λ i q. one (row rows i) (w i q)) in
    let few : k * length rows ≤ k * m = mul-le-mul_left k l in
    let two : k * 1 ≤ k * m = mul-le-mul_left k some in
    rows_shares rows (k * m) (omega (arith, mul_assoc 64 k (length rows))) (omega arith)
  where
    one : (r : Row) → length r.cells ≤ c → 64 * share r ≤ 64 * (11 * c)
    one r q = let most = cells-most r.outcome r.cells in row_share r (64 * (11 * c)) (omega arith) (omega arith)

-- "For a default other than silent": with a default of silent, written or not, there are the written rows and no others
module _ (t : Table) (e : default_answer t.default ≡ Silent) where
  pub silent_rows : table_rows t ≡ t.rows
  unfolding added_rows
  silent_rows = rw e (append-nil t.rows)

  pub silent_nodes : table_nodes t ≡ rows_nodes t.rows
  unfolding table_nodes
  silent_nodes = ap rows_nodes silent_rows

  pub silent_size : table_size t ≡ rows_size t.rows
  unfolding table_size
  silent_size = ap rows_size silent_rows

  pub table_most : WellFormed t → table_size t ≤ 4223
  table_most w =
      let most = rows-most 6 t.rows 64 (omega arith) (omega arith) w.few-rows (λ i l. rw (w.wide i l) w.few-columns) in
      omega (arith, silent_size)
