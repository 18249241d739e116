-- A row and its bytes: a written row has no fault and is read back, and a row without a fault is the writing of the row that is read.
use Prim.Native.Nat.{ℕ, zero, suc, ◌+◌, ◌-◌, ◌/◌, ◌%◌, ◌≤◌, ◌<◌}
use mathlib.Core.Path.{◌≡◌, refl, ap, ap₂, sym, ◌∙◌}
use mathlib.Core.Bool.{Bool, true, false, cond}
use mathlib.Core.List.{List, [], ◌∷◌, ◌++◌, map, append_assoc}
use lib.Dec.{ltb}
use lib.ListN.{length, take, drop, get_or, length-append, length-map, length-drop}
use lib.Seq.{take-suc, take_all, take_at, get_or_at, get_or-take, get_or-drop, length-take-le}
use borrow.Author.Tests.{lt-ltb, le-ltb, eq-eqb, ne_eqb, ltb-true, ltb-false}
use native.Mathlib.Omega.{arith}
use Rattle.refusals.specs.Meaning.{none, refused, VALUE}
use Rattle.fields.specs.Meaning.{size, first_above}
use Rattle.fields.proofs.Above.{first_above-all, first_above_before}
use Rattle.answers.specs.Meaning.{number, from_number}
use Rattle.answers.proofs.Claims.{number_from, from_number_lem, number_small}
use Rattle.rows.specs.Meaning.{Cell, is, any, Row, cell_byte, row_field, row_width, cell_of, cell_bytes, row_of}
use Rattle.faults.specs.Meaning.{cells_at, value_fault, row_fault}
use Rattle.faults.proofs.RowFaults.{row_fault-sound}

-- a cell, a row of cells and their bytes
cell_byte_lem : (c : Cell) → cell_of (cell_byte c) ≡ c
cell_byte_lem (is a) = rw (lt-ltb (number a) 4 (omega (arith, number_small a)), number_from a)
cell_byte_lem any = refl

byte_cell : (b : ℕ) → b ≤ 4 → cell_byte (cell_of b) ≡ b
byte_cell b h = go (ltb b 4) refl
  where
    go : (t : Bool) → ltb b 4 ≡ t → cell_byte (cell_of b) ≡ b
    go true e = let l : b < 4 = ltb-true b 4 e in rw (e, from_number_lem b (omega arith))
    go false e = let l : 4 ≤ b = ltb-false b 4 e in rw e (omega arith)

cells-bytes : (cells : List Cell) → map cell_of (map cell_byte cells) ≡ cells
cells-bytes [] = refl
cells-bytes (c ∷ cells) = ap₂ ◌∷◌ (cell_byte_lem c) (cells-bytes cells)

bytes-cells : (b : List ℕ) → ((k : ℕ) → k < length b → get_or b k 0 ≤ 4) → map cell_byte (map cell_of b) ≡ b
bytes-cells [] h = refl
bytes-cells (x ∷ b) h = ap₂ ◌∷◌ (byte_cell x (h 0 (omega arith))) (bytes-cells b (λ k l. h (suc k) (omega arith)))

cell_small : (cells : List Cell) (k : ℕ) → k < length (map cell_byte cells) → get_or (map cell_byte cells) k 0 ≤ 4
cell_small [] k l = absurd (omega arith)
cell_small (is a ∷ cells) zero l = omega (arith, number_small a)
cell_small (any ∷ cells) zero l = omega arith
cell_small (c ∷ cells) (suc k) l = cell_small cells k (omega arith)

-- a row that is written
module _ (r : Row) (n : ℕ) (wide : length r.cells ≡ n) where
  value : List ℕ
  value = map cell_byte r.cells ++ (number r.outcome ∷ [])

  value-length : length value ≡ n + 1
  unfolding value
  value-length = simp (length-append, length-map) (omega arith)

  row_field-is : n ≤ 6 → row_field r ≡ 2 ∷ 0 ∷ (n + 1) ∷ (map cell_byte r.cells ++ (number r.outcome ∷ []))
  unfolding value
  row_field-is few =
      let h : (n + 1) / 256 ≡ 0 = omega arith in
      let l : (n + 1) % 256 ≡ n + 1 = omega arith in
      rw (value-length, h, l)

  pub row_field-length : length (row_field r) ≡ row_width n
  unfolding value
  row_field-length = let l = value-length in omega arith

  row_field-cells : cell_bytes (row_field r) ≡ map cell_byte r.cells
  row_field-cells =
      let e : length (row_field r) - 4 ≡ n = let l = row_field-length in omega arith in
      rw e (take_at (map cell_byte r.cells) (number r.outcome ∷ []) n (length-map r.cells cell_byte ∙ wide))

  row_field-outcome : get_or (row_field r) (length (row_field r) - 1) 0 ≡ number r.outcome
  row_field-outcome =
      let e : length (row_field r) - 1 ≡ suc (suc (suc n)) = let l = row_field-length in omega arith in
      rw e (get_or_at (map cell_byte r.cells) (number r.outcome) [] 0 n (length-map r.cells cell_byte ∙ wide))

  pub row_of-row_field : row_of (row_field r) ≡ r
  row_of-row_field =
      ap₂ (λ cells outcome. record { cells = cells; outcome = outcome }) (ap (map cell_of) row_field-cells ∙ cells-bytes r.cells)
      (ap from_number row_field-outcome ∙ number_from r.outcome)

  -- at the front of other bytes
  module _ (rest : List ℕ) where
    written-cells : cells_at n (row_field r ++ rest) ≡ map cell_byte r.cells
    written-cells =
        rw (append_assoc (map cell_byte r.cells) (number r.outcome ∷ []) rest)
        (take_at (map cell_byte r.cells) (number r.outcome ∷ rest) n (length-map r.cells cell_byte ∙ wide))

    written-outcome : get_or (row_field r ++ rest) (3 + n) 0 ≡ number r.outcome
    written-outcome =
        let e : 3 + n ≡ suc (suc (suc n)) = omega arith in
        rw (e, append_assoc (map cell_byte r.cells) (number r.outcome ∷ []) rest)
        (get_or_at (map cell_byte r.cells) (number r.outcome) rest 0 n (length-map r.cells cell_byte ∙ wide))

    written-values : (at : ℕ) → (value_fault n at (row_field r ++ rest)).number ≡ 0
    unfolding value_fault
    written-values at =
        let e : first_above 4 (map cell_byte r.cells) ≡ n =
        first_above-all 4 (map cell_byte r.cells) (cell_small r.cells) ∙ length-map r.cells cell_byte ∙ wide in
        rw (written-cells, e, le-ltb n n (omega arith), written-outcome, le-ltb 3 (number r.outcome) (number_small r.outcome))

    pub written-long : row_width n ≤ length (row_field r ++ rest)
    written-long = let l = row_field-length in omega (arith, length-append (row_field r) rest)

    pub written_passes : (left at : ℕ) → 1 ≤ left → (row_fault left n at (row_field r ++ rest)).number ≡ 0
    unfolding row_fault value
    written_passes left at more =
        let long = written-long in
        let same : size (row_field r ++ rest) ≡ n + 1 = let l = value-length in omega arith in
        rw (
          le-ltb (length (row_field r ++ rest)) 3 (omega arith),
          ne_eqb left 0 (λ e. omega (arith, e)),
          eq-eqb (size (row_field r ++ rest)) (n + 1) same,
          le-ltb (length (row_field r ++ rest)) (3 + (n + 1)) (omega arith),
        )
        (written-values at)

-- the values of a row without a fault
values-passed :
    (p q : ℕ) (a b : Bool) →
    (cond a (refused VALUE p) (cond b (refused VALUE q) none)).number ≡ 0 →
    (a ≡ false) × (b ≡ false)
values-passed p q true b h = absurd (omega (arith, h))
values-passed p q false true h = absurd (omega (arith, h))
values-passed p q false false h = (refl, refl)

module _ (n at : ℕ) (row : List ℕ) (h : (value_fault n at row).number ≡ 0) where
  passed : (ltb (first_above 4 (cells_at n row)) n ≡ false) × (ltb 3 (get_or row (3 + n) 0) ≡ false)
  unfolding value_fault
  passed =
      values-passed (at + (3 + first_above 4 (cells_at n row))) (at + (3 + n)) (ltb (first_above 4 (cells_at n row)) n)
      (ltb 3 (get_or row (3 + n) 0)) h

  cell_sound : (k : ℕ) → k < n → get_or row (3 + k) 0 ≤ 4
  cell_sound k l =
      let f : n ≤ first_above 4 (cells_at n row) = ltb-false (first_above 4 (cells_at n row)) n passed.0 in
      let g : get_or (cells_at n row) k 0 ≤ 4 = first_above_before 4 (cells_at n row) k (omega arith) in
      rw (get_or-take n (drop 3 row) k 0 l, get_or-drop 3 row k 0) at g

  outcome-sound : get_or row (3 + n) 0 ≤ 3
  outcome-sound = ltb-false 3 (get_or row (3 + n) 0) passed.1

-- the bytes of a row without a fault
record SoundBytes (n : ℕ) (b : List ℕ) : Type 0 where
  long : length b ≡ n + 4
  tag : get_or b 0 0 ≡ 2
  high : get_or b 1 0 ≡ 0
  low : get_or b 2 0 ≡ n + 1
  cells-long : length (cell_bytes b) ≡ n
  cells-small : (k : ℕ) → k < n → get_or (cell_bytes b) k 0 ≤ 4
  outcome-small : get_or b (3 + n) 0 ≤ 3

module _ (left n at : ℕ) (rows : List ℕ) (few : n ≤ 6) (h : (row_fault left n at rows).number ≡ 0) where
  part : List ℕ
  part = take (row_width n) rows

  part_size : length part ≡ n + 4
  unfolding part
  part_size = length-take-le (row_width n) rows (row_fault-sound left n at rows h).long

  part_at : (k : ℕ) → k < n + 4 → get_or part k 0 ≡ get_or rows k 0
  unfolding part
  part_at k l = get_or-take (row_width n) rows k 0 l

  part_cells : length (cell_bytes part) ≡ n
  part_cells =
      let e : length part - 4 ≡ n = let l = part_size in omega arith in
      rw e (length-take-le n (drop 3 part) (simp length-drop (let l = part_size in omega arith)))

  part_cell : (k : ℕ) → k < n → get_or (cell_bytes part) k 0 ≤ 4
  part_cell k l =
      let e : length part - 4 ≡ n = let l = part_size in omega arith in
      rw (e, get_or-take n (drop 3 part) k 0 l, get_or-drop 3 part k 0, part_at (3 + k) (omega arith))
      (cell_sound n at rows (row_fault-sound left n at rows h).values k l)

  part_sound : SoundBytes n part
  part_sound =
      let s = row_fault-sound left n at rows h in
      let same = s.row-size in
      let y : get_or part 1 0 ≡ get_or rows 1 0 = part_at 1 (omega arith) in
      let z : get_or part 2 0 ≡ get_or rows 2 0 = part_at 2 (omega arith) in
      record {
        long = part_size;
        tag = part_at 0 (omega arith) ∙ s.row-tag;
        high = omega arith;
        low = omega arith;
        cells-long = part_cells;
        cells-small = part_cell;
        outcome-small = rw (part_at (3 + n) (omega arith)) (outcome-sound n at rows s.values);
      }

-- the row in these bytes has these bytes
value_again :
    (n : ℕ) (v : List ℕ) →
    length v ≡ n + 1 →
    ((k : ℕ) → k < length (take n v) → get_or (take n v) k 0 ≤ 4) →
    get_or v n 0 ≤ 3 →
    map cell_byte (map cell_of (take n v)) ++ (number (from_number (get_or v n 0)) ∷ []) ≡ v
value_again n v l h k =
    rw (bytes-cells (take n v) h, from_number_lem (get_or v n 0) k)
    (sym (take-suc v n 0 (omega arith)) ∙ take_all (suc n) v (omega arith))

row_field-row_of : (n : ℕ) (b : List ℕ) → n ≤ 6 → SoundBytes n b → row_field (row_of b) ≡ b
row_field-row_of n [] few s = absurd (let l = s.long in omega arith)
row_field-row_of n (x ∷ []) few s = absurd (let l = s.long in omega arith)
row_field-row_of n (x ∷ y ∷ []) few s = absurd (let l = s.long in omega arith)
row_field-row_of n (x ∷ y ∷ z ∷ v) few s =
    let b = x ∷ y ∷ z ∷ v in
    let l : length b ≡ n + 4 = s.long in
    let e : length b - 4 ≡ n = omega arith in
    let f : length b - 1 ≡ suc (suc (suc n)) = omega arith in
    let g : 3 + n ≡ suc (suc (suc n)) = omega arith in
    let wide : length (row_of b).cells ≡ n = length-map (cell_bytes b) cell_of ∙ s.cells-long in
    let outcome : get_or v n 0 ≤ 3 = rw g at s.outcome-small in
    let cells : (k : ℕ) → k < length (cell_bytes b) → get_or (cell_bytes b) k 0 ≤ 4 =
    λ k m. s.cells-small k (rw s.cells-long at m) in
    row_field-is (row_of b) n wide few
    ∙ (rw (e, f, value_again n v (omega arith) (rw e at cells) outcome, s.tag, s.high, s.low))

module _ (left n at : ℕ) (rows : List ℕ) (few : n ≤ 6) (h : (row_fault left n at rows).number ≡ 0) where
  pub read_wide : length (row_of (take (row_width n) rows)).cells ≡ n
  unfolding part
  read_wide =
      length-map (cell_bytes (take (row_width n) rows)) cell_of ∙ (part_sound left n at rows few h).cells-long

  pub read_written : row_field (row_of (take (row_width n) rows)) ≡ take (row_width n) rows
  unfolding part
  read_written = row_field-row_of n (take (row_width n) rows) few (part_sound left n at rows few h)
