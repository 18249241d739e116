-- The rows of a part as they are written, one behind another, and all rows of a table.
use Prim.Native.Nat.{ℕ, zero, suc, ◌+◌, ◌*◌, ◌≤◌, ◌<◌}
use mathlib.Core.Path.{◌≡◌, refl, ap, sym, ◌∙◌}
use mathlib.Core.Bool.{Bool, true, false, cond}
use mathlib.Core.List.{List, [], ◌∷◌, ◌++◌, map}
use lib.Dec.{ltb, eqb}
use lib.ListN.{length, length-map, length-append}
use borrow.Author.Tests.{eqb-true, eqb-false, ltb-false}
use native.Mathlib.Nat.{zero-add, mul-le-mul_left}
use native.Mathlib.Omega.{arith}
use Rattle.lent.specs.Meaning.{WroteWhole}
use Rattle.lent.specs.Inside.{Wrote}
use Rattle.lent.proofs.Laws.{wrote_then, placed-counted, placed-written}
use Rattle.answers.specs.declared.Answer.{Answer}
use Rattle.base4.proofs.Shifts.{weight-small, weight-columns}
use Rattle.rows.specs.Meaning.{Row, row, row_width, cell_bytes, row_count, row_bytes, rows_in}
use Rattle.rows.proofs.RowBytes.{row_bytes-few, cell_bytes-few, row_count-end}
use Rattle.rows.proofs.RowLists.{rows_of-length, rows_of-row}
use Rattle.formula.specs.Meaning.{row_nodes, rows_left, is_silent, together, rows_nodes, added_rows, all_rows}
use Rattle.writing.specs.Meaning.{few_rows}
use Rattle.writing.specs.Inside.{limit, parts_rest, row_parts, rows_step}
use Rattle.formula.proofs.Sizes.{rows-size}
use Rattle.formula.proofs.Largest.{rows-most}
use Rattle.formula.proofs.Added.{each_row, added_rows-few, added_rows-wide}
use Rattle.writing.proofs.Parts.{Some, lined-none, lined-some, lined-append}
use Rattle.writing.proofs.Rows.{loud_not_silent, row-some}

-- a row has at most six cells
pub cells_six : (n : ℕ) (rows : List ℕ) (i : ℕ) → length (cell_bytes (row_bytes n rows i)) ≤ 6
cells_six n rows i = cell_bytes-few (row_bytes n rows i) (row_bytes-few n rows i)

-- no part of a table is empty
rows-some : (rows : List Row) → Some (row_parts rows)
unfolding rows_left
rows-some [] = tt
rows-some (r ∷ rows) = go (is_silent r.outcome) refl (rows-some rows)
  where
    go : (b : Bool) → is_silent r.outcome ≡ b → Some (row_parts rows) → Some (map row_nodes (cond b (rows_left rows) (r ∷ rows_left rows)))
    go true e rest = rest
    go false e rest = (row-some r (loud_not_silent r.outcome e), rest)

row_parts-append : (rows more : List Row) → row_parts (rows ++ more) ≡ row_parts rows ++ row_parts more
unfolding rows_left
row_parts-append [] more = refl
row_parts-append (r ∷ rows) more = go (is_silent r.outcome) (row_parts-append rows more)
  where
    go :
        (b : Bool) →
        row_parts (rows ++ more) ≡ row_parts rows ++ row_parts more →
        map row_nodes (cond b (rows_left (rows ++ more)) (r ∷ rows_left (rows ++ more)))
        ≡ map row_nodes (cond b (rows_left rows) (r ∷ rows_left rows)) ++ row_parts more
    go true e = e
    go false e = ap (λ parts. row_nodes r ∷ parts) e

-- rows behind rows
module _ (rows more : List Row) where
  pub rows_step-append :
      rows_step true rows ++ rows_step (eqb (length (rows_step true rows)) 0) more ≡ rows_step true (rows ++ more)
  unfolding parts_rest
  rows_step-append =
      rw (row_parts-append rows more)
      (lined-append 7 (row_parts rows) (row_parts more) (rows-some rows))

-- all rows, or the constant 0 where none is left
module _ (rows : List Row) where
  pub no_rows : length (rows_step true rows) ≡ 0 → rows_nodes rows ≡ 0 ∷ []
  unfolding rows_nodes parts_rest together
  no_rows e = rw (lined-none 7 (row_parts rows) (rows-some rows) e)

  pub some-rows : (length (rows_step true rows) ≡ 0 → ⊥) → rows_step true rows ≡ rows_nodes rows
  unfolding rows_nodes parts_rest
  some-rows h = lined-some 7 0 (row_parts rows) h

  step_small : length (rows_step true rows) ≤ length (rows_nodes rows)
  step_small = go (eqb (length (rows_step true rows)) 0) refl
    where
      go : (b : Bool) → eqb (length (rows_step true rows)) 0 ≡ b → length (rows_step true rows) ≤ length (rows_nodes rows)
      go true e = let none = eqb-true (length (rows_step true rows)) 0 e in omega arith
      go false e = let same = ap length (some-rows (eqb-false (length (rows_step true rows)) 0 e)) in omega arith

-- a part of 640 bytes holds at most 160 rows
row_count-few : (n : ℕ) (rows : List ℕ) → length rows ≤ 640 → row_count n rows ≤ 160
row_count-few n rows h = go (row_count n rows) refl
  where
    go : (k : ℕ) → row_count n rows ≡ k → k ≤ 160
    go zero e = omega arith
    go (suc k) e =
        let end = row_count-end n rows k (omega (arith, e)) in
        let four : 4 ≤ row_width n = omega arith in
        let wide : k * 4 ≤ k * row_width n = mul-le-mul_left k four in
        omega arith

-- no place passes the most nodes that a table needs
module _ (d : Answer) (n : ℕ) (rows : List ℕ) (short : length rows ≤ 640) where
  few : row_count n rows ≤ 160
  few = row_count-few n rows short

  narrow : (i : ℕ) → i < length (all_rows d n (rows_in n rows)) → length (row (all_rows d n (rows_in n rows)) i).cells ≤ 6
  narrow =
      let added = added_rows d n (rows_in n rows) in
      each_row (λ r. length r.cells ≤ 6) (rows_in n rows) added
      (λ i l.
      let inside = rows_of-length n rows 0 (row_count n rows) in
      rw (rows_of-row n rows 0 (row_count n rows) i (omega (arith, l)), length-map) (cells_six n rows (0 + i)))
      (λ i l.
      let few = weight-columns n i (omega (arith, l, added_rows-few d (rows_in n rows) n)) in
      rw (added_rows-wide d (rows_in n rows) n i l) few)

  pub table_within : length (rows_step true (all_rows d n (rows_in n rows))) ≤ limit
  table_within =
      let long = rows_of-length n rows 0 (row_count n rows) in
      let added = added_rows-few d (rows_in n rows) n in
      let all = length-append (rows_in n rows) (added_rows d n (rows_in n rows)) in
      let most = rows-most 6 (all_rows d n (rows_in n rows)) 4256 (omega arith) (omega arith) (omega (arith, few, weight-small n)) narrow in
      let size = rows-size (all_rows d n (rows_in n rows)) in
      let small = step_small (all_rows d n (rows_in n rows)) in
      omega arith

  pub written-within : 0 + length (rows_step (eqb 0 0) (rows_in n rows)) ≤ limit
  written-within =
      let whole = ap length (rows_step-append (rows_in n rows) (added_rows d n (rows_in n rows))) in
      let more = rows_step (eqb (length (rows_step true (rows_in n rows))) 0) (added_rows d n (rows_in n rows)) in
      let parts = length-append (rows_step true (rows_in n rows)) more in
      let all = table_within in
      omega arith

-- the written rows, then the added ones
module _
    (d : Answer) (n : ℕ) (rows : List ℕ) (short : length rows ≤ 640) {old mid : List ℕ} {at m : ℕ}
    (zero : at ≡ 0)
    (from : Wrote old at (rows_step (eqb at 0) (rows_in n rows)) mid m)
  where
    v : Wrote old 0 (rows_step (eqb 0 0) (rows_in n rows)) mid m
    v = rw zero at from

    abbrev added : List Row
    added = added_rows d n (rows_in n rows)

    place : m ≡ length (rows_step true (rows_in n rows))
    place = v.ends ∙ zero-add (length (rows_step true (rows_in n rows)))

    pub added-within : m + length (rows_step (eqb m 0) added) ≤ limit
    added-within =
        let whole = ap length (rows_step-append (rows_in n rows) added) in
        let parts = length-append (rows_step true (rows_in n rows)) (rows_step (eqb (length (rows_step true (rows_in n rows))) 0) added) in
        let all = table_within d n rows short in
        rw place (omega arith)

    module _ {new : List ℕ} {r : ℕ} (u : Wrote mid m (rows_step (eqb m 0) added) new r) where
      both : Wrote old 0 (rows_step true (all_rows d n (rows_in n rows))) new r
      both = rw (place, rows_step-append (rows_in n rows) added) at (wrote_then v u)

      count : r ≡ length (rows_step true (all_rows d n (rows_in n rows)))
      count = both.ends ∙ zero-add (length (rows_step true (all_rows d n (rows_in n rows))))

      pub zero-written :
          r ≡ 0 →
          {c : List ℕ} {q : ℕ} →
          Wrote new r (0 ∷ []) c q →
          Wrote old at (rows_nodes (all_rows d n (rows_in n rows))) c q
      zero-written z x =
          let none = sym count ∙ z in
          let nothing = empty (rows_step true (all_rows d n (rows_in n rows))) none in
          rw (zero, no_rows (all_rows d n (rows_in n rows)) none) (rw nothing at (wrote_then both x))
        where
          empty : (l : List ℕ) → length l ≡ 0 → l ≡ []
          empty [] e = refl
          empty (y ∷ l) e = absurd (omega arith)

      pub all-written : (r ≡ 0 → ⊥) → Wrote old at (rows_nodes (all_rows d n (rows_in n rows))) new r
      all-written z = rw zero (rw (some-rows (all_rows d n (rows_in n rows)) (λ e. z (count ∙ e))) at both)

-- a part no longer than a table's
module _ (rows : List ℕ) where
  pub few-short : {part : List ℕ} → part ≡ few_rows rows → length part ≤ 640
  few-short e = rw e (go (ltb 640 (length rows)) refl)
    where
      go : (b : Bool) → ltb 640 (length rows) ≡ b → length (cond b [] rows) ≤ 640
      go true h = omega arith
      go false h = ltb-false 640 (length rows) h

-- the walk over no room counts; then all of it is written or nothing
pub rows-counted : (nodes : List ℕ) {old new : List ℕ} {r : ℕ} → Wrote old 0 nodes new r → r ≡ length nodes
rows-counted nodes w = w.ends ∙ zero-add (length nodes)

module _ (d : Answer) (n : ℕ) (rows : List ℕ) {part : List ℕ} (f : part ≡ few_rows rows) where
  abbrev counted : List ℕ
  counted = rows_nodes (all_rows d n (rows_in n part))

  abbrev whole : List ℕ
  whole = rows_nodes (all_rows d n (rows_in n (few_rows rows)))

  module _ {needed : ℕ} (g : needed ≡ length counted) where
    pub table_counted : (b : List ℕ) → length b < needed → WroteWhole b 0 whole b needed
    table_counted b l = rw f at (placed-counted b 0 counted (omega arith) l)

    pub table_written : {b c : List ℕ} {r : ℕ} → needed ≤ length b → Wrote b 0 counted c r → WroteWhole b 0 whole c r
    table_written l w = rw f at (let ends = w.ends in placed-written w (omega arith))
