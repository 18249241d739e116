-- What the private functions say among themselves, and what is known of fields without a fault. Nothing here has to be believed.
use Rattle.std.specs.Prelude.{ℕ, ◌+◌, ◌≤◌, ◌≡◌, cond, List, length}
use Rattle.refusals.specs.Meaning.{Numbers, none, refused, SHORT, LEN, VALUE}
use Rattle.fields.specs.Meaning.{tag, size, short_value}
use Rattle.situations.specs.Meaning.{outside}
use Rattle.rows.specs.Meaning.{row_width}
use Rattle.faults.specs.Meaning.{columns_of, other_length, value_fault}

-- the last faults of the first field, and of a row
abbrev pub range_fault : ℕ → Numbers
range_fault columns = cond (outside columns) (refused VALUE 3) none

abbrev pub length_fault : ℕ → ℕ → List ℕ → Numbers
length_fault n at row =
    cond (other_length (n + 1) row) (refused LEN at)
    (cond (short_value (n + 1) row) (refused SHORT at)
    (value_fault n at row))

-- what is known of a first field without a fault
pub record SoundColumns (t : List ℕ) : Type 0 where
  pub long : 4 ≤ length t
  pub first-tag : tag t ≡ 1
  pub one_byte : size t ≡ 1
  pub some-column : 1 ≤ columns_of t
  pub few-columns : columns_of t ≤ 6

-- and of a row without one
pub record SoundRow (left n at : ℕ) (rows : List ℕ) : Type 0 where
  pub row-tag : tag rows ≡ 2
  pub more : 1 ≤ left
  pub row-size : size rows ≡ n + 1
  pub long : row_width n ≤ length rows
  pub values : (value_fault n at rows).number ≡ 0
