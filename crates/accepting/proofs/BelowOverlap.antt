-- What fields are refused by has a number below OVERLAP.
use Prim.Native.Nat.{ℕ, zero, suc, ◌+◌, ◌-◌, ◌≤◌}
use mathlib.Core.Bool.{Bool, true, false, cond}
use mathlib.Core.List.{List}
use lib.Dec.{ltb, eqb}
use lib.ListN.{length, drop, get_or}
use native.Mathlib.Omega.{arith}
use Rattle.refusals.specs.Meaning.{Numbers, none, refused, after, SHORT, START, TAG, LEN, VALUE, ROWS}
use Rattle.fields.specs.Meaning.{short_header, short_value, first_above}
use Rattle.situations.specs.Meaning.{outside}
use Rattle.rows.specs.Meaning.{row_width}
use Rattle.defaults.specs.Meaning.{has_default, default_fault}
use Rattle.faults.specs.Meaning.{columns_of, other_tag, row_too_many, other_length, cells_at, value_fault, columns_fault, row_fault}
use Rattle.tables.specs.Meaning.{TableRead, behind_columns, rows_start, rows_part, refuse_table, accept_table, rows_from, fields_of}

record Small (r : Numbers) : Type 0 where
  below : r.number ≤ 6

small_either : (b : Bool) {p q : Numbers} → Small p → Small q → Small (cond b p q)
small_either true h k = h
small_either false h k = k

small : (b : Bool) (k p : ℕ) {r : Numbers} → k ≤ 6 → Small r → Small (cond b (refused k p) r)
small b k p l h = small_either b (record { below = l }) h

small-none : Small none
small-none = record { below = omega arith }

columns_fault-small : (t : List ℕ) → Small (columns_fault t)
unfolding columns_fault
columns_fault-small t =
    small (eqb (length t) 0) START 0 (omega arith)
    (small (short_header t) SHORT 0 (omega arith)
    (small (other_tag 1 t) START 0 (omega arith)
    (small (other_length 1 t) LEN 0 (omega arith)
    (small (short_value 1 t) SHORT 0 (omega arith)
    (small (outside (columns_of t)) VALUE 3 (omega arith) small-none)))))

default_fault-small : (part : List ℕ) → Small (default_fault part)
unfolding default_fault
default_fault-small part =
    small_either (has_default part)
    (small (short_header part) SHORT 4 (omega arith)
    (small (other_length 1 part) LEN 4 (omega arith)
    (small (short_value 1 part) SHORT 4 (omega arith)
    (small (ltb 3 (get_or part 3 0)) VALUE 7 (omega arith) small-none))))
    small-none

row_fault-small : (left n at : ℕ) (rows : List ℕ) → Small (row_fault left n at rows)
unfolding row_fault value_fault
row_fault-small left n at rows =
    let k = first_above 4 (cells_at n rows) in
    small (short_header rows) SHORT at (omega arith)
    (small (other_tag 2 rows) TAG at (omega arith)
    (small (row_too_many left) ROWS at (omega arith)
    (small (other_length (n + 1) rows) LEN at (omega arith)
    (small (short_value (n + 1) rows) SHORT at (omega arith)
    (small (ltb k n) VALUE (at + (3 + k)) (omega arith)
    (small (ltb 3 (get_or rows (3 + n) 0)) VALUE (at + (3 + n)) (omega arith) small-none))))))

small_read : (b : Bool) (x y : TableRead) → Small x.refusal → Small y.refusal → Small (cond b x y).refusal
small_read true x y h k = h
small_read false x y h k = k

after_small : (r : Numbers) (x : TableRead) → Small r → Small x.refusal → Small (after r refuse_table x).refusal
after_small r x h k = small_read (eqb r.number 0) x (refuse_table r) k h

rows_from-small : (left n at : ℕ) (rows : List ℕ) → Small (rows_from left n at rows).refusal
unfolding rows_from
rows_from-small zero n at rows =
    small_read (eqb (length rows) 0) (accept_table n 64) (refuse_table (row_fault zero n at rows)) small-none (row_fault-small zero n at rows)
rows_from-small (suc left) n at rows =
    let next = rows_from left n (at + row_width n) (drop (row_width n) rows) in
    let fault = row_fault (suc left) n at rows in
    small_read (eqb (length rows) 0) (accept_table n (64 - suc left)) (after fault refuse_table next) small-none
    (after_small fault next (row_fault-small (suc left) n at rows) (rows_from-small left n (at + row_width n) (drop (row_width n) rows)))

pub fields_of-small : (t : List ℕ) → (fields_of t).refusal.number ≤ 6
unfolding fields_of
fields_of-small t =
    let rows = rows_from 64 (columns_of t) (rows_start t) (rows_part t) in
    let default = default_fault (behind_columns t) in
    (after_small (columns_fault t) (after default refuse_table rows) (columns_fault-small t)
    (after_small default rows (default_fault-small (behind_columns t)) (rows_from-small 64 (columns_of t) (rows_start t) (rows_part t)))
    ).below
