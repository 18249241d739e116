-- A table that is read: how many columns and rows it has, and that these rows are just what the part behind its first field holds.
use Prim.Native.Nat.{ℕ, zero, suc, ◌+◌, ◌-◌, ◌*◌, ◌≤◌}
use mathlib.Core.Path.{◌≡◌, refl, ap, sym, ◌∙◌}
use mathlib.Core.Bool.{Bool, true, false}
use mathlib.Core.List.{List}
use lib.Dec.{eqb}
use lib.ListN.{length, drop, length-drop}
use borrow.Author.Tests.{eqb-true, eqb-false}
use native.Mathlib.Omega.{arith}
use Rattle.refusals.specs.Meaning.{Numbers, after}
use Rattle.rows.specs.Meaning.{row_width, row_count, first_overlap}
use Rattle.rows.proofs.RowBytes.{row_count-none, row_count-next}
use Rattle.faults.specs.Meaning.{columns_of, columns_fault, row_fault}
use Rattle.defaults.specs.Meaning.{default_fault}
use Rattle.tables.specs.Meaning.{TableRead, behind_columns, rows_start, rows_part, refuse_table, accept_table, rows_from, fields_of, read_of}
use Rattle.faults.specs.Inside.{SoundColumns, SoundRow}
use Rattle.faults.proofs.FirstField.{columns_fault-sound}
use Rattle.faults.proofs.RowFaults.{row_fault-sound}
use Rattle.tables.proofs.RowsRead.{rows_from-end, rows_from-stop, rows_from-pass}

-- a row is read where nothing is refused
rows_from-fault :
    (left n at : ℕ) (rows : List ℕ) →
    (length rows ≡ 0 → ⊥) →
    (rows_from left n at rows).refusal.number ≡ 0 →
    (row_fault left n at rows).number ≡ 0
rows_from-fault left n at rows l h = go (eqb (row_fault left n at rows).number 0) refl
  where
    go : (b : Bool) → eqb (row_fault left n at rows).number 0 ≡ b → (row_fault left n at rows).number ≡ 0
    go true e = eqb-true (row_fault left n at rows).number 0 e
    go false e =
        let stop = rows_from-stop left n at rows l (eqb-false (row_fault left n at rows).number 0 e) in
        ap (λ (x : TableRead). x.refusal.number) (sym stop) ∙ h

-- What holds of a part without bytes, and of one whose first row has no fault if it holds of the part behind that row, holds of
-- every part that is read.
module _
    (n : ℕ)
    (P : ℕ → ℕ → List ℕ → Type 0)
    (none : (left at : ℕ) (rows : List ℕ) → length rows ≡ 0 → P left at rows)
    (next :
    (left at : ℕ) (rows : List ℕ) →
    (length rows ≡ 0 → ⊥) →
    (row_fault left n at rows).number ≡ 0 →
    P (left - 1) (at + row_width n) (drop (row_width n) rows) →
    P left at rows) where
  pub rows_from-each : (left at : ℕ) (rows : List ℕ) → (rows_from left n at rows).refusal.number ≡ 0 → P left at rows
  rows_from-each zero at rows h = go (eqb (length rows) 0) refl
    where
      go : (b : Bool) → eqb (length rows) 0 ≡ b → P zero at rows
      go true e = none zero at rows (eqb-true (length rows) 0 e)
      go false e =
          let s = row_fault-sound zero n at rows (rows_from-fault zero n at rows (eqb-false (length rows) 0 e) h) in
          absurd (let more = s.more in omega arith)
  rows_from-each (suc left) at rows h = go (eqb (length rows) 0) refl (rows_from-each left (at + row_width n) (drop (row_width n) rows))
    where
      go :
          (b : Bool) →
          eqb (length rows) 0 ≡ b →
          ((rows_from left n (at + row_width n) (drop (row_width n) rows)).refusal.number ≡ 0 →
          P left (at + row_width n) (drop (row_width n) rows)) →
          P (suc left) at rows
      go true e again = none (suc left) at rows (eqb-true (length rows) 0 e)
      go false e again =
          let some = eqb-false (length rows) 0 e in
          let z : (row_fault (suc left) n at rows).number ≡ 0 = rows_from-fault (suc left) n at rows some h in
          let same : suc left - 1 ≡ left = omega arith in
          let pass = rw same at (rows_from-pass (suc left) n at rows some z) in
          next (suc left) at rows some z (rw same (again (ap (λ (x : TableRead). x.refusal.number) (sym pass) ∙ h)))

-- as many as the part holds
record Counted (left n at : ℕ) (rows : List ℕ) : Type 0 where
  reply : rows_from left n at rows ≡ accept_table n (64 - left + row_count n rows)
  few : row_count n rows ≤ left
  short : length rows ≤ 10 * left

counted_none : (left n at : ℕ) (rows : List ℕ) → length rows ≡ 0 → Counted left n at rows
counted_none left n at rows z =
    let count : row_count n rows ≡ 0 = row_count-none n rows z in
    let e : 64 - left ≡ 64 - left + row_count n rows = omega arith in
    record { reply = rows_from-end left n at rows z ∙ ap (accept_table n) e; few = omega arith; short = omega arith }

module _
    (left n at : ℕ)
    (rows : List ℕ)
    (most : left ≤ 64)
    (few : n ≤ 6)
    (some : length rows ≡ 0 → ⊥)
    (h : (row_fault left n at rows).number ≡ 0) where
  row-sound : SoundRow left n at rows
  row-sound = row_fault-sound left n at rows h

  counted_next : Counted (left - 1) n (at + row_width n) (drop (row_width n) rows) → Counted left n at rows
  counted_next c =
      let long = row-sound.long in
      let more = row-sound.more in
      let count : row_count n rows ≡ suc (row_count n (drop (row_width n) rows)) = row_count-next n rows few long in
      let less = c.few in
      let e : 64 - (left - 1) + row_count n (drop (row_width n) rows) ≡ 64 - left + row_count n rows = omega arith in
      record {
        reply = rows_from-pass left n at rows some h ∙ c.reply ∙ ap (accept_table n) e;
        few = omega arith;
        short = let rest = c.short in omega (arith, rest, length-drop (row_width n) rows);
      }

rows-counted :
    (n : ℕ) →
    n ≤ 6 →
    (left at : ℕ) (rows : List ℕ) →
    (rows_from left n at rows).refusal.number ≡ 0 →
    left ≤ 64 →
    Counted left n at rows
rows-counted n few =
    rows_from-each n (λ left at rows. left ≤ 64 → Counted left n at rows) (λ left at rows z most. counted_none left n at rows z)
    (λ left at rows some h again most. counted_next left n at rows most few some h (again (omega (arith, most))))

-- a check that comes first has passed where nothing is refused
after-passed :
    (check : Numbers) (f : TableRead) →
    (after check refuse_table f).refusal.number ≡ 0 →
    (check.number ≡ 0) × (after check refuse_table f ≡ f)
after-passed check f h = go (eqb check.number 0) refl
  where
    go : (b : Bool) → eqb check.number 0 ≡ b → (check.number ≡ 0) × (after check refuse_table f ≡ f)
    go true e = (eqb-true check.number 0 e, rw e)
    go false e = absurd (eqb-false check.number 0 e (rw e at h))

-- What is known of bytes whose fields are read, and of a table that is read.
pub record FieldsRead (t : List ℕ) : Type 0 where
  pub reply : fields_of t ≡ accept_table (columns_of t) (row_count (columns_of t) (rows_part t))
  pub rows : (rows_from 64 (columns_of t) (rows_start t) (rows_part t)).refusal.number ≡ 0
  pub columns : SoundColumns t
  pub default : (default_fault (behind_columns t)).number ≡ 0
  pub few-rows : row_count (columns_of t) (rows_part t) ≤ 64
  pub short : length (rows_part t) ≤ 640

pub fields_read : (t : List ℕ) → (fields_of t).refusal.number ≡ 0 → FieldsRead t
unfolding fields_of
fields_read t h =
    let rows = rows_from 64 (columns_of t) (rows_start t) (rows_part t) in
    let number : TableRead → ℕ = λ x. x.refusal.number in
    let w = after-passed (columns_fault t) (after (default_fault (behind_columns t)) refuse_table rows) h in
    let v = after-passed (default_fault (behind_columns t)) rows (ap number (sym w.1) ∙ h) in
    let s = columns_fault-sound t w.0 in
    let z = ap number (sym (w.1 ∙ v.1)) ∙ h in
    let c = rows-counted (columns_of t) s.few-columns 64 (rows_start t) (rows_part t) z (omega arith) in
    let e : 64 - 64 + row_count (columns_of t) (rows_part t) ≡ row_count (columns_of t) (rows_part t) = omega arith in
    record { reply = w.1 ∙ v.1 ∙ c.reply ∙ ap (accept_table (columns_of t)) e; rows = z; columns = s; default = v.0; few-rows = c.few; short = c.short }

pub record Accepted (t : List ℕ) : Type 0 where
  pub reply : read_of t ≡ accept_table (columns_of t) (row_count (columns_of t) (rows_part t))
  pub fields : FieldsRead t
  pub clear : (first_overlap (columns_of t) (rows_part t)).number ≡ 0
  pub few-columns : columns_of t ≤ 6
  pub few-rows : row_count (columns_of t) (rows_part t) ≤ 64
  pub short : length (rows_part t) ≤ 640

pub read_accepted : (t : List ℕ) → (read_of t).refusal.number ≡ 0 → Accepted t
unfolding read_of
read_accepted t h =
    let overlaps = first_overlap (columns_of t) (rows_part t) in
    let w = after-passed (fields_of t).refusal (after overlaps refuse_table (fields_of t)) h in
    let v = after-passed overlaps (fields_of t) (ap (λ (x : TableRead). x.refusal.number) (sym w.1) ∙ h) in
    let f = fields_read t w.0 in
    record { reply = w.1 ∙ v.1 ∙ f.reply; fields = f; clear = v.0; few-columns = f.columns.few-columns; few-rows = f.few-rows; short = f.short }
