-- A row's field: what one without a fault tells, and the ways out of its tests.
use Prim.Native.Nat.{ℕ, ◌+◌, ◌-◌, ◌≤◌, ◌<◌}
use mathlib.Core.Path.{◌≡◌, refl, sym, ◌∙◌}
use mathlib.Core.Bool.{Bool, true, false, cond}
use mathlib.Core.List.{List}
use lib.Dec.{ltb, eqb}
use lib.ListN.{length, take, drop, get_or, length-take, length-drop}
use borrow.Author.Tests.{lt-ltb, le-ltb, eq-eqb, ne_eqb, ltb-false, eqb-true, eqb-false, not-false}
use native.Mathlib.Nat.{add-sub_cancel_left}
use native.Mathlib.Omega.{arith}
use Rattle.std.specs.Prelude.{Option, Some, None}
use Rattle.refusals.specs.Meaning.{Numbers, none, refused, numbers, refusal_at, SHORT, TAG, LEN, ROWS}
use Rattle.refusals.specs.declared.Kind.TheVariants as kind
use Rattle.refusals.specs.declared.Refusal.{Refusal}
use Rattle.fields.specs.Meaning.{tag, size, short_header, short_value, first_above, above}
use Rattle.fields.proofs.Above.{above-found, above_none}
use Rattle.faults.specs.Meaning.{other_tag, row_too_many, other_length, cells_at, value_fault, row_fault}
use Rattle.faults.specs.Inside.{length_fault, SoundRow}

-- no fault means that every test was passed
row-passed :
    (at : ℕ) (a b c d e : Bool) (v : Numbers) →
    (cond a (refused SHORT at)
    (cond b (refused TAG at)
    (cond c (refused ROWS at)
    (cond d (refused LEN at)
    (cond e (refused SHORT at) v))))).number
    ≡ 0 →
    (b ≡ false) × (c ≡ false) × (d ≡ false) × (e ≡ false) × (v.number ≡ 0)
row-passed at true b c d e v h = absurd (omega (arith, h))
row-passed at false true c d e v h = absurd (omega (arith, h))
row-passed at false false true d e v h = absurd (omega (arith, h))
row-passed at false false false true e v h = absurd (omega (arith, h))
row-passed at false false false false true v h = absurd (omega (arith, h))
row-passed at false false false false false v h = (refl, refl, refl, refl, h)

pub row_fault-sound : (left n at : ℕ) (rows : List ℕ) → (row_fault left n at rows).number ≡ 0 → SoundRow left n at rows
unfolding row_fault
row_fault-sound left n at rows h =
    let w =
    row-passed at (short_header rows) (other_tag 2 rows) (row_too_many left) (other_length (n + 1) rows) (short_value (n + 1) rows)
    (value_fault n at rows) h in
    record {
      row-tag = eqb-true (tag rows) 2 (not-false (eqb (tag rows) 2) w.0);
      more = let p : left ≡ 0 → ⊥ = eqb-false left 0 w.1 in omega arith;
      row-size = eqb-true (size rows) (n + 1) (not-false (eqb (size rows) (n + 1)) w.2);
      long = let l : 3 + (n + 1) ≤ length rows = ltb-false (length rows) (3 + (n + 1)) w.3 in omega arith;
      values = w.4;
    }

pub row_inside : (n : ℕ) (rows : List ℕ) {cut : Bool} → cut ≡ short_value (n + 1) rows → cut ≡ false → n + 4 ≤ length rows
row_inside n rows e h = let l : 3 + (n + 1) ≤ length rows = ltb-false (length rows) (3 + (n + 1)) (sym e ∙ h) in omega arith

-- the ways out of its tests, whose results the code has in hand
module _ (left n at : ℕ) (rows : List ℕ) {r : Numbers} {header : Bool} (e : header ≡ short_header rows) where
  pub row_fault-short : header ≡ true → r ≡ refused SHORT at → r ≡ row_fault left n at rows
  unfolding row_fault
  row_fault-short h q = rw (sym e ∙ h) q

  module _ (long : header ≡ false) (k : ℕ) (f : k ≡ tag rows) where
    pub row_fault-tag : (k ≡ 2 → ⊥) → r ≡ refused TAG at → r ≡ row_fault left n at rows
    unfolding row_fault
    row_fault-tag h q = rw (sym e ∙ long, ← f, ne_eqb k 2 h) q

    module _ (row : k ≡ 2) where
      pub row_fault-rows : left ≡ 0 → r ≡ refused ROWS at → r ≡ row_fault left n at rows
      unfolding row_fault
      row_fault-rows h q = rw (sym e ∙ long, ← f, eq-eqb k 2 row, eq-eqb left 0 h) q

      pub row_fault-rest : (left ≡ 0 → ⊥) → r ≡ length_fault n at rows → r ≡ row_fault left n at rows
      unfolding row_fault
      row_fault-rest more q = rw (sym e ∙ long, ← f, eq-eqb k 2 row, ne_eqb left 0 more) q

-- the ways out of the tests of its length
module _ (n at : ℕ) (row : List ℕ) {r : Numbers} (l : ℕ) (g : l ≡ size row) where
  pub length_fault-length : (l ≡ n + 1 → ⊥) → r ≡ refused LEN at → r ≡ length_fault n at row
  length_fault-length h q = rw (← g, ne_eqb l (n + 1) h) q

  module _ (same : l ≡ n + 1) {cut : Bool} (i : cut ≡ short_value (n + 1) row) where
    pub length_fault_cut : cut ≡ true → r ≡ refused SHORT at → r ≡ length_fault n at row
    length_fault_cut h q = rw (← g, eq-eqb l (n + 1) same, sym i ∙ h) q

    pub length_fault-values : cut ≡ false → r ≡ value_fault n at row → r ≡ length_fault n at row
    length_fault-values h q = rw (← g, eq-eqb l (n + 1) same, sym i ∙ h) q

-- the ways out of the tests of its values
module _ (n at : ℕ) (row : List ℕ) {o : Option ℕ} (e : o ≡ above 4 (take (3 + n - 3) (drop 3 row))) (long : n + 4 ≤ length row) where
  cells : o ≡ above 4 (cells_at n row)
  cells = rw (add-sub_cancel_left 3 n) at e

  width : length (cells_at n row) ≡ n
  width = simp (length-take, length-drop) (omega arith)

  pub value_fault_cell : {k : ℕ} (r : Refusal) → o ≡ Some k → r ≡ refusal_at kind.Value (at + 3 + k) → numbers r ≡ value_fault n at row
  unfolding value_fault
  value_fault_cell {k} r h q =
      let f = above-found 4 (cells_at n row) (sym cells ∙ h) in
      let inside : ltb (first_above 4 (cells_at n row)) n ≡ true = rw width at f.0 in
      let place : at + 3 + k ≡ at + (3 + k) = omega arith in
      rw (q, inside, f.1, place)

  module _ (h : o ≡ None) where
    passed : ltb (first_above 4 (cells_at n row)) n ≡ false
    passed = rw width at (above_none 4 (cells_at n row) (sym cells ∙ h))

    pub value_fault-outcome : (r : Refusal) → 3 < get_or row (3 + n) 0 → r ≡ refusal_at kind.Value (at + (3 + n)) → numbers r ≡ value_fault n at row
    unfolding value_fault
    value_fault-outcome r l q = rw (q, passed, lt-ltb 3 (get_or row (3 + n) 0) l)

    pub value_fault-none : get_or row (3 + n) 0 ≤ 3 → none ≡ value_fault n at row
    unfolding value_fault
    value_fault-none l = rw (passed, le-ltb 3 (get_or row (3 + n) 0) l)

-- What `check_values`, `check_length` and `check_row` return, check by check.
pub ruleset value_laws = (value_fault_cell, value_fault-outcome, value_fault-none)

pub ruleset length_laws = (row_inside, length_fault-length, length_fault_cut, length_fault-values)

pub ruleset row_fault_laws = (row_fault-short, row_fault-tag, row_fault-rows, row_fault-rest)
