-- Tables: what one is, its bytes, what it says of a situation, and how bytes are read as one.
use Rattle.std.specs.Prelude.{ℕ, zero, suc, ◌+◌, ◌-◌, ◌≤◌, ◌<◌, ◌≡◌, cond, List, [], ◌∷◌, ◌++◌, T, eqb, length, drop, Result}
use Rattle.refusals.specs.Meaning.{Numbers, none, after, replied}
use Rattle.refusals.specs.declared.Refusal.{Refusal}
use Rattle.fields.specs.Meaning.{field}
use Rattle.answers.specs.declared.Answer.{Answer}
use Rattle.faults.specs.Meaning.{columns_of, columns_fault, row_fault}
use Rattle.defaults.specs.Meaning.{Default, default_answer, default_field, default_size, default_in, default_fault}
use Rattle.rows.specs.Meaning.{Row, row, matches, row_fields, row_width, rows_in, Disagree, first_overlap}
use Rattle.tables.specs.declared.Read.{Read}

-- What a table is.

-- "The number of columns n .. Then 0 to 64 rows." Between them a default, where one is written.
pub record Table : Type 0 where
  pub columns : ℕ
  pub default : Default
  pub rows : List Row

-- "The number of columns n, 1 to 6. Then 0 to 64 rows .. n cells, then the outcome."
pub record WellFormed (t : Table) : Type 0 where
  pub some-column : 1 ≤ t.columns
  pub few-columns : t.columns ≤ 6
  pub few-rows : length t.rows ≤ 64
  pub wide : (i : ℕ) → i < length t.rows → length (row t.rows i).cells ≡ t.columns

-- "The compiled tree answers every situation as the matching line says, else silent", or else the default: what rows, where none
-- matches a default, and so the table, say of a situation.
unfoldable pub rows_say : Answer → List Row → List Answer → Answer
rows_say d [] s = d
rows_say d (r ∷ rows) s = cond (matches r.cells s) r.outcome (rows_say d rows s)

abbrev pub says : Table → List Answer → Answer
says t s = rows_say (default_answer t.default) t.rows s

-- No situation is matched by two rows with different outcomes.
pub record Consistent (t : Table) : Type 0 where
  pub agree :
      (i j : ℕ) →
      i < length t.rows →
      j < length t.rows →
      (s : List Answer) →
      length s ≡ t.columns →
      T (matches (row t.rows i).cells s) →
      T (matches (row t.rows j).cells s) →
      (row t.rows i).outcome ≡ (row t.rows j).outcome

-- "OVERLAP .. the place is the smallest later row, the second number the smallest earlier row it disagrees with, rows counted
-- from 0."
pub record FirstDisagreement (t : Table) (later earlier : ℕ) : Type 0 where
  pub inside : later < length t.rows
  pub order : earlier < later
  pub here : Disagree t.columns (row t.rows later) (row t.rows earlier)
  pub later_smallest : (l e : ℕ) → l < later → e < l → Disagree t.columns (row t.rows l) (row t.rows e) → ⊥
  pub earlier_smallest : (e : ℕ) → e < earlier → Disagree t.columns (row t.rows later) (row t.rows e) → ⊥

-- Its bytes: "The first field is tag 1, length 1: the number of columns n, 1 to 6. Then 0 to 64 rows", the default before them.
abbrev pub table_bytes : Table → List ℕ
table_bytes t = field 1 (t.columns ∷ []) ++ default_field t.default ++ row_fields t.rows

-- The table that bytes are: its columns stand in the first field, its default directly behind that, and then its rows.
abbrev pub behind_columns : List ℕ → List ℕ
behind_columns t = drop 4 t

abbrev pub rows_start : List ℕ → ℕ
rows_start t = 4 + default_size (behind_columns t)

abbrev pub rows_part : List ℕ → List ℕ
rows_part t = drop (rows_start t) t

abbrev pub table_of : List ℕ → Table
table_of t =
    record { columns = columns_of t; default = default_in (behind_columns t); rows = rows_in (columns_of t) (rows_part t) }

-- How bytes are read. The faults of one field are those of faults.

-- What reading replies: the number of columns and of rows.
pub record TableRead : Type 0 where
  pub refusal : Numbers
  pub columns : ℕ
  pub rows : ℕ

-- "A refusal returns .. any other result number 0."
abbrev pub refuse_table : Numbers → TableRead
refuse_table r = record { refusal = r; columns = 0; rows = 0 }

abbrev pub accept_table : ℕ → ℕ → TableRead
accept_table n rows = record { refusal = none; columns = n; rows = rows }

-- The same of a result.
abbrev pub table_read : Result Read Refusal → TableRead
table_read = replied (λ r. accept_table r.columns r.rows) refuse_table

-- "Read from the front": the row that a part starts with, then the part behind that row.
unfoldable pub rows_from : ℕ → ℕ → ℕ → List ℕ → TableRead
rows_from zero n at rows = cond (eqb (length rows) 0) (accept_table n 64) (refuse_table (row_fault zero n at rows))
rows_from (suc left) n at rows =
    cond (eqb (length rows) 0) (accept_table n (64 - suc left))
    (after (row_fault (suc left) n at rows) refuse_table (rows_from left n (at + row_width n) (drop (row_width n) rows)))

-- All fields, before the rows are compared.
unfoldable pub fields_of : List ℕ → TableRead
fields_of t =
    after (columns_fault t) refuse_table
    (after (default_fault (behind_columns t)) refuse_table (rows_from 64 (columns_of t) (rows_start t) (rows_part t)))

-- Reading a table: its fields. "After all fields: OVERLAP." (ROOM is the compiler's.)
unfoldable pub read_of : List ℕ → TableRead
read_of t =
    after (fields_of t).refusal refuse_table
    (after (first_overlap (columns_of t) (rows_part t)) refuse_table (fields_of t))
