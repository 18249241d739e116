-- Rows and their bytes: written rows are read and are again these rows, and rows that are read are the bytes of the rows in them.
use Prim.Native.Nat.{ℕ, zero, suc, ◌+◌, ◌-◌, ◌*◌, ◌≤◌, ◌<◌}
use mathlib.Core.Path.{◌≡◌, refl, ap, ap₂, sym, ◌∙◌}
use mathlib.Core.List.{List, [], ◌∷◌, ◌++◌, append-nil, append_assoc}
use lib.ListN.{length, take, drop, length-append, take-append-drop}
use lib.Seq.{take_at, drop_at}
use native.Mathlib.Nat.{zero-mul, suc-mul}
use native.Mathlib.Omega.{arith}
use Rattle.rows.specs.Meaning.{Row, row, row_field, row_fields, row_width, row_of, rows_in}
use Rattle.faults.specs.Meaning.{row_fault}
use Rattle.defaults.specs.Meaning.{Default, unwritten, written}
use Rattle.tables.specs.Meaning.{accept_table, rows_from}
use Rattle.faults.proofs.RowFaults.{row_fault-sound}
use Rattle.tables.proofs.RowsRead.{rows_from-end, rows_from-pass}
use Rattle.tables.proofs.Accepted.{rows_from-each}
use Rattle.accepting.proofs.DefaultEncoding.{Apart}
use Rattle.accepting.proofs.RowsIn.{rows_in-none, rows_in-next}
use Rattle.accepting.proofs.RowEncoding.{row_field-length, row_of-row_field, written-long, written_passes, read_wide, read_written}

-- rows of n cells
unfoldable pub Wide : ℕ → List Row → Type 0
Wide n rows = (i : ℕ) → i < length rows → length (row rows i).cells ≡ n

module _ (n : ℕ) (r : Row) (rows : List Row) where
  wide_head : Wide n (r ∷ rows) → length r.cells ≡ n
  unfolding Wide
  wide_head w = w 0 (omega arith)

  wide_tail : Wide n (r ∷ rows) → Wide n rows
  unfolding Wide
  wide_tail w i l = w (suc i) (omega arith)

  wide-cons : length r.cells ≡ n → Wide n rows → Wide n (r ∷ rows)
  unfolding Wide
  wide-cons e w zero l = e
  wide-cons e w (suc i) l = w i (omega arith)

-- no row's field is a default
pub row_fields_apart : (d : Default) (rows : List Row) → Apart d (row_fields rows)
unfolding row_fields
row_fields_apart unwritten [] = refl
row_fields_apart unwritten (r ∷ rows) = refl
row_fields_apart (written a) rows = tt

-- how long they are
pub row_fields-length : (n : ℕ) (rows : List Row) → Wide n rows → length (row_fields rows) ≡ length rows * row_width n
unfolding row_fields
row_fields-length n [] w = sym (zero-mul (row_width n))
row_fields-length n (r ∷ rows) w =
    length-append (row_field r) (row_fields rows)
    ∙ (rw (row_field-length r n (wide_head n r rows w), row_fields-length n rows (wide_tail n r rows w), suc-mul (length rows) (row_width n)) (omega arith))

-- behind a written row
drop-row : (r : Row) (n : ℕ) (rest : List ℕ) → length r.cells ≡ n → drop (row_width n) (row_field r ++ rest) ≡ rest
drop-row r n rest wide = drop_at (row_field r) rest (row_width n) (row_field-length r n wide)

-- written rows are read, and what stands behind them as further rows
pub write_past :
    (rows : List Row) (left n at : ℕ) (rest : List ℕ) →
    length rows ≤ left →
    Wide n rows →
    rows_from left n at (row_fields rows ++ rest) ≡ rows_from (left - length rows) n (at + length (row_fields rows)) rest
unfolding row_fields
write_past [] left n at rest l w = ap₂ (λ left at. rows_from left n at rest) (omega arith) (omega arith)
write_past (r ∷ rows) left n at rest l w =
    let wide = wide_head n r rows w in
    let behind : List ℕ = row_fields rows ++ rest in
    let long = written-long r n wide behind in
    let count : left - 1 - length rows ≡ left - suc (length rows) = omega arith in
    let place : at + row_width n + length (row_fields rows) ≡ at + length (row_field r ++ row_fields rows) =
    omega (arith, length-append (row_field r) (row_fields rows), row_field-length r n wide) in
    ap (rows_from left n at) (append_assoc (row_field r) (row_fields rows) rest)
    ∙ rows_from-pass left n at (row_field r ++ behind) (λ z. omega (arith, z, long)) (written_passes r n wide behind left at (omega arith))
    ∙ ap (rows_from (left - 1) n (at + row_width n)) (drop-row r n behind wide)
    ∙ write_past rows (left - 1) n (at + row_width n) rest (omega arith) (wide_tail n r rows w)
    ∙ ap₂ (λ left at. rows_from left n at rest) count place

pub write_read :
    (rows : List Row) (left n at : ℕ) →
    left ≤ 64 →
    length rows ≤ left →
    Wide n rows →
    rows_from left n at (row_fields rows) ≡ accept_table n (64 - left + length rows)
write_read rows left n at most l w =
    let count : 64 - (left - length rows) ≡ 64 - left + length rows = omega arith in
    ap (rows_from left n at) (sym (append-nil (row_fields rows)))
    ∙ write_past rows left n at [] l w
    ∙ rows_from-end (left - length rows) n (at + length (row_fields rows)) [] refl
    ∙ ap (accept_table n) count

pub write_rows : (n : ℕ) (rows : List Row) → n ≤ 6 → Wide n rows → rows_in n (row_fields rows) ≡ rows
unfolding row_fields
write_rows n [] few w = rows_in-none n [] refl
write_rows n (r ∷ rows) few w =
    let wide = wide_head n r rows w in
    let first : take (row_width n) (row_field r ++ row_fields rows) ≡ row_field r =
    take_at (row_field r) (row_fields rows) (row_width n) (row_field-length r n wide) in
    rows_in-next n (row_field r ++ row_fields rows) few (written-long r n wide (row_fields rows))
    ∙ ap₂ ◌∷◌ (ap row_of first ∙ row_of-row_field r n wide)
    (ap (rows_in n) (drop-row r n (row_fields rows) wide) ∙ write_rows n rows few (wide_tail n r rows w))

-- what is read of a part
pub record Encoded (n : ℕ) (rows : List ℕ) : Type 0 where
  pub wide : Wide n (rows_in n rows)
  pub same : row_fields (rows_in n rows) ≡ rows

no_bytes : (rows : List ℕ) → length rows ≡ 0 → [] ≡ rows
no_bytes [] z = refl
no_bytes (x ∷ rows) z = absurd (omega arith)

encoded_none : (n : ℕ) (rows : List ℕ) → length rows ≡ 0 → Encoded n rows
unfolding row_fields Wide
encoded_none n rows z =
    record {
      wide = rw (rows_in-none n rows z) (λ i l. absurd (omega (arith, l)));
      same = rw (rows_in-none n rows z) (no_bytes rows z);
    }

encoded_next :
    (left n at : ℕ) (rows : List ℕ) →
    n ≤ 6 →
    (row_fault left n at rows).number ≡ 0 →
    Encoded n (drop (row_width n) rows) →
    Encoded n rows
unfolding row_fields
encoded_next left n at rows few h e =
    let long = (row_fault-sound left n at rows h).long in
    let r : Row = row_of (take (row_width n) rows) in
    record {
      wide =
          rw (rows_in-next n rows few long)
          (wide-cons n r (rows_in n (drop (row_width n) rows)) (read_wide left n at rows few h) e.wide);
      same =
          rw (rows_in-next n rows few long)
          (ap₂ ◌++◌ (read_written left n at rows few h) e.same ∙ take-append-drop (row_width n) rows);
    }

pub read_write : (n : ℕ) → n ≤ 6 → (left at : ℕ) (rows : List ℕ) → (rows_from left n at rows).refusal.number ≡ 0 → Encoded n rows
read_write n few =
    rows_from-each n (λ left at rows. Encoded n rows) (λ left at rows z. encoded_none n rows z)
    (λ left at rows some h again. encoded_next left n at rows few h again)
