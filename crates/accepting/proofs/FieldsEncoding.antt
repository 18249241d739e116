-- The columns and the default at the front of a table: they have no fault, and what stands behind them is read as rows.
use Prim.Native.Nat.{ℕ, ◌+◌, ◌≤◌}
use mathlib.Core.Path.{◌≡◌, sym, ◌∙◌}
use mathlib.Core.List.{List, [], ◌∷◌, ◌++◌}
use lib.ListN.{length, drop}
use lib.Seq.{drop-drop}
use borrow.Author.Tests.{le-ltb, eq-eqb, ne_eqb}
use native.Mathlib.Omega.{arith}
use Rattle.fields.specs.Meaning.{field}
use Rattle.faults.specs.Meaning.{columns_fault}
use Rattle.defaults.specs.Meaning.{Default, default_field, default_size, default_fault}
use Rattle.tables.specs.Meaning.{behind_columns, rows_part, rows_from, fields_of}
use Rattle.accepting.proofs.DefaultEncoding.{Apart, Written, write_default}

-- the rows stand behind the default, which stands behind the columns
pub rows_part-behind : (t : List ℕ) → rows_part t ≡ drop (default_size (behind_columns t)) (behind_columns t)
rows_part-behind t = sym (drop-drop (default_size (behind_columns t)) 4 t)

module _ (n : ℕ) (some : 1 ≤ n) (few : n ≤ 6) where
  pub columns-pass : (behind : List ℕ) → (columns_fault (field 1 (n ∷ []) ++ behind)).number ≡ 0
  unfolding columns_fault
  columns-pass behind =
      let bytes : List ℕ = field 1 (n ∷ []) ++ behind in
      rw (
        ne_eqb (length bytes) 0 (λ e. omega (arith, e)),
        le-ltb (length bytes) 3 (omega arith),
        le-ltb (length bytes) 4 (omega arith),
        le-ltb n 1 some,
        le-ltb 6 n few,
      )

  module _ (d : Default) (rows : List ℕ) (apart : Apart d rows) where
    abbrev bytes : List ℕ
    bytes = field 1 (n ∷ []) ++ default_field d ++ rows

    pub default-written : Written d rows (behind_columns bytes)
    default-written = write_default d rows apart

    pub rows_written : rows_part bytes ≡ rows
    rows_written = rows_part-behind bytes ∙ default-written.behind

    pub fields_written : fields_of bytes ≡ rows_from 64 n (4 + length (default_field d)) rows
    unfolding fields_of
    fields_written =
        rw (
          eq-eqb (columns_fault bytes).number 0 (columns-pass (default_field d ++ rows)),
          eq-eqb (default_fault (behind_columns bytes)).number 0 default-written.passes,
          rows_written,
          default-written.long,
        )
