-- Tables and their bytes: a well-formed, consistent table is read back from its bytes, what is accepted is the bytes of the table that
-- is read, and OVERLAP names the first rows of such bytes that disagree.
use Prim.Native.Nat.{ℕ, ◌+◌, ◌*◌, ◌≤◌, ◌<◌}
use mathlib.Core.Path.{◌≡◌, refl, ap, ap₂, sym, ◌∙◌}
use mathlib.Core.Logic.{◌⊎◌, inl, inr, ⊎_elim}
use mathlib.Core.Bool.{Bool, true, false}
use mathlib.Core.List.{List, [], ◌∷◌, ◌++◌}
use lib.Dec.{eqb}
use lib.ListN.{length, length-append}
use borrow.Author.Tests.{eqb-true, eqb-false}
use native.Mathlib.Nat.{zero-add, mul-le-mul}
use native.Mathlib.Omega.{arith}
use Rattle.refusals.specs.Meaning.{Numbers, after, OVERLAP}
use Rattle.fields.specs.Meaning.{field}
use Rattle.rows.specs.Meaning.{row, row_fields, row_width, row_bytes, row_of, rows_in, first_overlap}
use Rattle.faults.specs.Meaning.{columns_of}
use Rattle.defaults.specs.Meaning.{default_field, default_in}
use Rattle.tables.specs.Meaning.{TableRead, Table, WellFormed, Consistent, FirstDisagreement, table_bytes, behind_columns, rows_start, rows_part, table_of, refuse_table, accept_table, fields_of, read_of}
use Rattle.tables.proofs.ReadReturns.{read_of_disagreement, read_of_pass}
use Rattle.tables.proofs.Accepted.{FieldsRead, fields_read, read_accepted}
use Rattle.accepting.proofs.RowsIn.{rows_in-length, rows_in-row}
use Rattle.accepting.proofs.RowsEncoding.{Wide, row_fields-length, row_fields_apart, write_rows, Encoded}
use Rattle.accepting.proofs.RowsEncoding as rows
use Rattle.accepting.proofs.DefaultEncoding.{one_byte, Apart, read_default, default_field-short}
use Rattle.accepting.proofs.FieldsEncoding.{rows_part-behind, default-written, rows_written, fields_written}
use Rattle.accepting.proofs.FirstDisagreements.{consistent_clear, clear_consistent, overlap-first}
use Rattle.accepting.proofs.BelowOverlap.{fields_of-small}

-- the bytes of a well-formed table
module _ (t : Table) (w : WellFormed t) where
  rows_apart : Apart t.default (row_fields t.rows)
  rows_apart = row_fields_apart t.default t.rows

  write_fields : fields_of (table_bytes t) ≡ accept_table t.columns (length t.rows)
  unfolding Wide
  write_fields =
      fields_written t.columns w.some-column w.few-columns t.default (row_fields t.rows) rows_apart
      ∙ rows.write_read t.rows 64 t.columns (4 + length (default_field t.default)) (omega arith) w.few-rows w.wide
      ∙ ap (accept_table t.columns) (zero-add (length t.rows))

  fields_sound : (fields_of (table_bytes t)).refusal.number ≡ 0
  fields_sound = ap (λ (x : TableRead). x.refusal.number) write_fields

  pub write_table : table_of (table_bytes t) ≡ t
  unfolding Wide
  write_table =
      let rows = row_fields t.rows in
      ap₂ (λ d rows. record { columns = t.columns; default = d; rows = rows })
      (default-written t.columns w.some-column w.few-columns t.default rows rows_apart).read
      (ap (rows_in t.columns) (rows_written t.columns w.some-column w.few-columns t.default rows rows_apart)
      ∙ write_rows t.columns t.rows w.few-columns w.wide)

  pub write_row : (i : ℕ) → i < length t.rows → row_of (row_bytes t.columns (rows_part (table_bytes t)) i) ≡ row t.rows i
  write_row i l =
      let same : rows_in t.columns (rows_part (table_bytes t)) ≡ t.rows = ap (λ (x : Table). x.rows) write_table in
      let count = rows_in-length t.columns (rows_part (table_bytes t)) in
      sym (rows_in-row t.columns (rows_part (table_bytes t)) i (rw (← count, same) l)) ∙ ap (λ rs. row rs i) same

  pub table_bytes-length : length (table_bytes t) ≡ 4 + length (default_field t.default) + length t.rows * row_width t.columns
  unfolding Wide
  table_bytes-length =
      let rest = row_fields-length t.columns t.rows w.wide in
      omega (arith, rest, length-append (default_field t.default) (row_fields t.rows))

  pub table_bytes-most : length (table_bytes t) ≤ 648
  table_bytes-most =
      let width : row_width t.columns ≤ 10 = let few = w.few-columns in omega arith in
      let most : length t.rows * row_width t.columns ≤ 64 * 10 = mul-le-mul w.few-rows width in
      rw table_bytes-length (omega (arith, most, default_field-short t.default))

-- bytes whose fields are read
module _ (t : List ℕ) (f : FieldsRead t) where
  encoded : Encoded (columns_of t) (rows_part t)
  encoded = rows.read_write (columns_of t) f.columns.few-columns 64 (rows_start t) (rows_part t) f.rows

  fields_write : table_bytes (table_of t) ≡ t
  fields_write =
      let behind = behind_columns t in
      let first : List ℕ → List ℕ = λ rest. field 1 (columns_of t ∷ []) ++ rest in
      ap first
      (ap (λ rows. default_field (default_in behind) ++ rows) (encoded.same ∙ rows_part-behind t) ∙ read_default behind f.default)
      ∙ one_byte 1 t f.columns.first-tag f.columns.one_byte f.columns.long

  rows-wide : (i : ℕ) → i < length (table_of t).rows → length (row (table_of t).rows i).cells ≡ columns_of t
  unfolding Wide
  rows-wide = encoded.wide

  fields_formed : WellFormed (table_of t)
  fields_formed =
      record {
        some-column = f.columns.some-column;
        few-columns = f.columns.few-columns;
        few-rows = rw (rows_in-length (columns_of t) (rows_part t)) f.few-rows;
        wide = rows-wide;
      }

-- a well-formed, consistent table is read from its bytes
pub write_read : (t : Table) → WellFormed t → Consistent t → read_of (table_bytes t) ≡ accept_table t.columns (length t.rows)
write_read t w c =
    let b = table_bytes t in
    let sound = fields_sound t w in
    let clear = consistent_clear b (rows-wide b (fields_read b sound)) (rw (write_table t w) c) in
    sym (read_of_pass b refl sound clear) ∙ write_fields t w

-- and what is accepted is the bytes of the well-formed, consistent table that is read
module _ (t : List ℕ) (h : (read_of t).refusal.number ≡ 0) where
  pub read_write : table_bytes (table_of t) ≡ t
  read_write = fields_write t (read_accepted t h).fields

  pub read_formed : WellFormed (table_of t)
  read_formed = fields_formed t (read_accepted t h).fields

  pub read_consistent : Consistent (table_of t)
  read_consistent =
      clear_consistent t (rows-wide t (read_accepted t h).fields) (read_accepted t h).clear

-- what is refused is refused by the fields, or it is the first pair
read_split :
    (check : Numbers) (f : TableRead) →
    ((check.number ≡ 0) × (after check refuse_table f ≡ f)) ⊎ ((check.number ≡ 0 → ⊥) × (after check refuse_table f ≡ refuse_table check))
read_split check f = go (eqb check.number 0) refl
  where
    go :
        (b : Bool) →
        eqb check.number 0 ≡ b →
        ((check.number ≡ 0) × (after check refuse_table f ≡ f))
        ⊎ ((check.number ≡ 0 → ⊥) × (after check refuse_table f ≡ refuse_table check))
    go true e = inl (eqb-true check.number 0 e, rw e)
    go false e = inr (eqb-false check.number 0 e, rw e)

read_overlap :
    (t : List ℕ) →
    (read_of t).refusal.number ≡ OVERLAP →
    FieldsRead t
    × ((first_overlap (columns_of t) (rows_part t)).number ≡ 0 → ⊥)
    × ((read_of t).refusal ≡ first_overlap (columns_of t) (rows_part t))
unfolding read_of
read_overlap t h =
    let overlaps = first_overlap (columns_of t) (rows_part t) in
    let number : TableRead → ℕ = λ x. x.refusal.number in
    let few = fields_of-small t in
    ⊎_elim
    (λ w.
    ⊎_elim
    (λ v. absurd (let z = ap number (w.1 ∙ v.1) in let y = w.0 in omega arith))
    (λ v. (fields_read t w.0, v.0, ap (λ (x : TableRead). x.refusal) (w.1 ∙ v.1)))
    (read_split overlaps (fields_of t)))
    (λ w. absurd (let z = ap number w.1 in omega arith))
    (read_split (fields_of t).refusal (after overlaps refuse_table (fields_of t)))

module _ (t : List ℕ) (h : (read_of t).refusal.number ≡ OVERLAP) where
  pub overlap_write : table_bytes (table_of t) ≡ t
  overlap_write = fields_write t (read_overlap t h).0

  pub overlap_formed : WellFormed (table_of t)
  overlap_formed = fields_formed t (read_overlap t h).0

  pub overlap_named : FirstDisagreement (table_of t) (read_of t).refusal.place (read_of t).refusal.second
  overlap_named =
      let w = read_overlap t h in
      let v = overlap-first t (rows-wide t w.0) w.1 in
      rw (w.2, v.2) v.3

-- a well-formed table that is not consistent is refused by OVERLAP
pub write_overlap : (t : Table) → WellFormed t → (Consistent t → ⊥) → (read_of (table_bytes t)).refusal.number ≡ OVERLAP
write_overlap t w h =
    let b = table_bytes t in
    let sound = fields_sound t w in
    let wide = rows-wide b (fields_read b sound) in
    let bad : (first_overlap (columns_of b) (rows_part b)).number ≡ 0 → ⊥ =
    λ e. h (rw (write_table t w) at (clear_consistent b wide e)) in
    let v = overlap-first b wide bad in
    let reply : refuse_table (first_overlap (columns_of b) (rows_part b)) ≡ read_of b =
    read_of_disagreement b refl sound bad in
    ap (λ (x : TableRead). x.refusal.number) (sym reply) ∙ ap (λ (x : Numbers). x.number) v.2
