-- Where a field of tag 3 is refused: behind a default or a row by TAG, behind the columns where it is cut short, by its length or its value.
use Prim.Native.Nat.{ℕ, zero, suc, ◌+◌, ◌-◌, ◌≤◌, ◌<◌}
use mathlib.Core.Path.{◌≡◌, refl, ap, sym, ◌∙◌}
use mathlib.Core.List.{List, [], ◌∷◌, ◌++◌, append_assoc}
use lib.ListN.{length, take, length-append}
use borrow.Author.Tests.{lt-ltb, le-ltb, eq-eqb, ne_eqb}
use native.Mathlib.Omega.{arith}
use Rattle.refusals.specs.Meaning.{Numbers, refused, SHORT, TAG, LEN, VALUE}
use Rattle.fields.specs.Meaning.{field, tag, two}
use Rattle.rows.specs.Meaning.{Row, row_fields}
use Rattle.faults.specs.Meaning.{columns_fault, row_fault}
use Rattle.defaults.specs.Meaning.{Default, unwritten, written, default_field, default_fault}
use Rattle.tables.specs.Meaning.{Table, WellFormed, table_bytes, refuse_table, rows_from, fields_of, read_of}
use Rattle.tables.proofs.RowsRead.{rows_from-stop}
use Rattle.tables.proofs.ReadReturns.{read_of_stop}
use Rattle.accepting.proofs.DefaultEncoding.{Apart}
use Rattle.accepting.proofs.FieldsEncoding.{columns-pass, fields_written}
use Rattle.accepting.proofs.RowsEncoding.{Wide, write_past}

-- what the fields are refused with is what reading is refused with
fields_refused : (t : List ℕ) (r : Numbers) → (r.number ≡ 0 → ⊥) → fields_of t ≡ refuse_table r → read_of t ≡ refuse_table r
fields_refused t r loud e = sym (read_of_stop t {f = refuse_table r} (sym e) loud)

-- another tag than a row's, where rows are read
other_tag :
    (left n at : ℕ) (rest : List ℕ) →
    3 ≤ length rest →
    (tag rest ≡ 2 → ⊥) →
    rows_from left n at rest ≡ refuse_table (refused TAG at)
unfolding row_fault
other_tag left n at rest whole other =
    let fault : row_fault left n at rest ≡ refused TAG at = rw (le-ltb (length rest) 3 whole, ne_eqb (tag rest) 2 other) in
    rows_from-stop left n at rest (λ z. omega (arith, z)) (λ z. let k : ◌≡◌ {A = ℕ} TAG 0 = rw fault at z in absurd (omega arith))
    ∙ ap refuse_table fault

-- where no default is written there is a row, so that what follows is no default
begun_apart :
    (d : Default) (rows : List Row) (rest : List ℕ) → (d ≡ unwritten → 1 ≤ length rows) → Apart d (row_fields rows ++ rest)
unfolding row_fields
begun_apart unwritten [] rest h = absurd (let some = h refl in omega arith)
begun_apart unwritten (r ∷ rows) rest h = refl
begun_apart (written a) rows rest h = tt

-- behind a table that has a default or a row a field that is no row is refused by TAG
pub late_tag :
    (t : Table) →
    WellFormed t →
    (t.default ≡ unwritten → 1 ≤ length t.rows) →
    (rest : List ℕ) →
    3 ≤ length rest →
    (tag rest ≡ 2 → ⊥) →
    read_of (table_bytes t ++ rest) ≡ refuse_table (refused TAG (length (table_bytes t)))
unfolding Wide
late_tag t w begun rest whole other =
    let start : ℕ = 4 + length (default_field t.default) in
    let place : start + length (row_fields t.rows) ≡ length (table_bytes t) =
    omega (arith, length-append (default_field t.default) (row_fields t.rows)) in
    fields_refused (table_bytes t ++ rest) (refused TAG (length (table_bytes t))) (λ z. omega (arith, z))
    (ap (λ (behind : List ℕ). fields_of (field 1 (t.columns ∷ []) ++ behind))
    (append_assoc (default_field t.default) (row_fields t.rows) rest)
    ∙ fields_written t.columns w.some-column w.few-columns t.default (row_fields t.rows ++ rest)
    (begun_apart t.default t.rows rest begun)
    ∙ write_past t.rows 64 t.columns start rest w.few-rows w.wide
    ∙ other_tag (64 - length t.rows) t.columns (start + length (row_fields t.rows)) rest whole other
    ∙ ap (λ at. refuse_table (refused TAG at)) place)

-- a faulty default directly behind the columns
module _ (n : ℕ) (some : 1 ≤ n) (few : n ≤ 6) where
  default-refused :
      (part : List ℕ) (r : Numbers) →
      (r.number ≡ 0 → ⊥) →
      default_fault part ≡ r →
      read_of (field 1 (n ∷ []) ++ part) ≡ refuse_table r
  unfolding fields_of
  default-refused part r loud e =
      let bytes : List ℕ = field 1 (n ∷ []) ++ part in
      fields_refused bytes r loud
      (rw (eq-eqb (columns_fault bytes).number 0 (columns-pass n some few part), e, ne_eqb r.number 0 loud))

  pub default-length :
      (high low : ℕ) (rest : List ℕ) →
      (two high low ≡ 1 → ⊥) →
      read_of (field 1 (n ∷ []) ++ (3 ∷ high ∷ low ∷ rest)) ≡ refuse_table (refused LEN 4)
  unfolding default_fault
  default-length high low rest other =
      let part : List ℕ = 3 ∷ high ∷ low ∷ rest in
      default-refused part (refused LEN 4) (λ z. omega (arith, z))
      (rw (le-ltb (length part) 3 (omega arith), ne_eqb (two high low) 1 other))

  pub default-value :
      (v : ℕ) (rest : List ℕ) → 3 < v → read_of (field 1 (n ∷ []) ++ field 3 (v ∷ []) ++ rest) ≡ refuse_table (refused VALUE 7)
  unfolding default_fault
  default-value v rest large =
      let part : List ℕ = field 3 (v ∷ []) ++ rest in
      default-refused part (refused VALUE 7) (λ z. omega (arith, z))
      (rw (le-ltb (length part) 3 (omega arith), le-ltb (length part) 4 (omega arith), lt-ltb 3 v large))

  pub default_cut : (v k : ℕ) → 1 ≤ k → k ≤ 3 → read_of (field 1 (n ∷ []) ++ take k (field 3 (v ∷ []))) ≡ refuse_table (refused SHORT 4)
  unfolding default_fault
  default_cut v k l m = default-refused (take k (field 3 (v ∷ []))) (refused SHORT 4) (λ z. omega (arith, z)) (go k l m)
    where
      go : (k : ℕ) → 1 ≤ k → k ≤ 3 → default_fault (take k (field 3 (v ∷ []))) ≡ refused SHORT 4
      go zero l m = absurd (omega arith)
      go (suc zero) l m = refl
      go (suc (suc zero)) l m = refl
      go (suc (suc (suc zero))) l m = refl
      go (suc (suc (suc (suc k)))) l m = absurd (omega arith)
