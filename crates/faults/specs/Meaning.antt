-- What is wrong with one field of a table: the first one, and a row.
use Rattle.std.specs.Prelude.{ℕ, ◌+◌, Bool, cond, not, List, ltb, eqb, length, take, drop, get_or}
use Rattle.refusals.specs.Meaning.{Numbers, none, refused, SHORT, START, TAG, LEN, VALUE, ROWS}
use Rattle.fields.specs.Meaning.{tag, size, short_header, short_value, first_above}
use Rattle.situations.specs.Meaning.{outside}

-- The number of columns stands in the first field, behind a header of three bytes.
abbrev pub columns_of : List ℕ → ℕ
columns_of t = get_or t 3 0

-- The faults of the field that bytes start with, each by itself. The short ones are those of fields.

-- "Tag not 1 at offset 0, START; later tag not 2, TAG."
abbrev pub other_tag : ℕ → List ℕ → Bool
other_tag wanted s = not (eqb (tag s) wanted)

-- "A 65th row, ROWS": no row is left of the 64.
abbrev pub row_too_many : ℕ → Bool
row_too_many left = eqb left 0

-- "Wrong length, LEN."
abbrev pub other_length : ℕ → List ℕ → Bool
other_length wanted s = not (eqb (size s) wanted)

-- "Value out of range, VALUE .. the offset of its first byte out of range": of n cells behind a row's header, then the outcome.
abbrev pub cells_at : ℕ → List ℕ → List ℕ
cells_at n row = take n (drop 3 row)

unfoldable pub value_fault : ℕ → ℕ → List ℕ → Numbers
value_fault n at row =
    cond (ltb (first_above 4 (cells_at n row)) n) (refused VALUE (at + (3 + first_above 4 (cells_at n row))))
    (cond (ltb 3 (get_or row (3 + n) 0)) (refused VALUE (at + (3 + n))) none)

-- "An input of no bytes is START at 0." Then the faults of the first field in their order, with its offset 0.
unfoldable pub columns_fault : List ℕ → Numbers
columns_fault t =
    cond (eqb (length t) 0) (refused START 0)
    (cond (short_header t) (refused SHORT 0)
    (cond (other_tag 1 t) (refused START 0)
    (cond (other_length 1 t) (refused LEN 0)
    (cond (short_value 1 t) (refused SHORT 0)
    (cond (outside (columns_of t)) (refused VALUE 3) none)))))

-- The faults of the row that a part starts with in their order, with its offset in the table, where so many rows are left of the 64.
unfoldable pub row_fault : ℕ → ℕ → ℕ → List ℕ → Numbers
row_fault left n at rows =
    cond (short_header rows) (refused SHORT at)
    (cond (other_tag 2 rows) (refused TAG at)
    (cond (row_too_many left) (refused ROWS at)
    (cond (other_length (n + 1) rows) (refused LEN at)
    (cond (short_value (n + 1) rows) (refused SHORT at)
    (value_fault n at rows)))))
