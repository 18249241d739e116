-- What a cell adds to a row and a row to a table, as it is written, and the loop over the cells of a row.
use Prim.Native.Nat.{ℕ, suc, ◌+◌, ◌%◌, ◌≤◌, ◌<◌}
use mathlib.Core.Path.{◌≡◌, refl}
use mathlib.Core.Bool.{Bool, true, false, cond}
use mathlib.Core.List.{List, [], ◌∷◌, ◌++◌, map}
use lib.Dec.{eqb}
use lib.ListN.{length, drop, get_or, drop_of_length-le, length-append}
use lib.Seq.{drop-cons}
use borrow.Author.Tests.{lt-ltb, le-ltb, eq-eqb}
use native.Mathlib.Numerals.{add-one}
use native.Mathlib.Omega.{arith}
use Rattle.lent.specs.Meaning.{WroteWhole}
use Rattle.lent.specs.Inside.{Wrote}
use Rattle.lent.proofs.Laws.{wrote_none, wrote_then, within_first, placed_wrote}
use Rattle.answers.specs.Meaning.{number, from_number}
use Rattle.answers.specs.declared.Answer.{Answer}
use Rattle.answers.specs.declared.Answer.TheVariants.{Silent, Bury, Keep, Clash}
use Rattle.rows.specs.Meaning.{Cell, is, any, Row, cell_of}
use Rattle.answers.proofs.Claims.{number_from}
use Rattle.formula.specs.Meaning.{selector, selectors, together, row_nodes, is_silent, selector_size}
use Rattle.writing.specs.Inside.{limit, beyond, Loud, row_with, behind, part_nodes, cell_nodes, row_step, parts_rest, WritingParts, WritingCells}
use Rattle.formula.proofs.Sizes.{selector-size}
use Rattle.formula.proofs.Largest.{selector_size-most}
use Rattle.writing.proofs.Parts.{lined-together, parts_start, part_within, part_written, none_within, none_written, instead_written, parts_done}

-- an answer that is not silent
pub is_silent-loud : (j : Answer) → Loud j → is_silent j ≡ false
is_silent-loud Silent h = absurd (h refl)
is_silent-loud Bury h = refl
is_silent-loud Keep h = refl
is_silent-loud Clash h = refl

pub loud_not_silent : (j : Answer) → is_silent j ≡ false → Loud j
loud_not_silent j e z = cc

-- no selector is empty, and no row
selector_size-some : (a j : Answer) → Loud j → 1 ≤ selector_size a j
unfolding selector_size
selector_size-some a Silent h = absurd (h refl)
selector_size-some a Bury h = omega arith
selector_size-some a Keep h = omega arith
selector_size-some a Clash h = omega arith

selector-some : (column : ℕ) (a j : Answer) → Loud j → 1 ≤ length (selector column a j)
selector-some column a j h = rw (selector-size column a j) (selector_size-some a j h)

selectors-some : (column : ℕ) (j : Answer) (cells : List Cell) → Loud j → 1 ≤ length (together 6 (number j) (selectors column j cells))
unfolding selectors together
selectors-some column j [] h = omega arith
selectors-some column j (is a ∷ cells) h = rw length-append (let some = selector-some column a j h in omega arith)
selectors-some column j (any ∷ cells) h = selectors-some (suc column) j cells h

pub row-some : (r : Row) → Loud r.outcome → 1 ≤ length (row_nodes r)
unfolding row_nodes
row-some r h = selectors-some 0 r.outcome r.cells h

-- a row that comes next among the parts, or is left out
module _
    {whole old new : List ℕ} {at next : ℕ} (out : Bool) (r : Row) (rest : List Row)
    (w : WritingParts 7 [] whole old 0 at new next (map row_nodes (cond out rest (r ∷ rest))))
  where
    pub row_fits : at + length whole ≤ limit → next + length (cond out [] (part_nodes 7 (eqb next 0) (row_nodes r))) ≤ limit
    row_fits room = go out w
      where
        go :
            (s : Bool) →
            WritingParts 7 [] whole old 0 at new next (map row_nodes (cond s rest (r ∷ rest))) →
            next + length (cond s [] (part_nodes 7 (eqb next 0) (row_nodes r))) ≤ limit
        go true v = none_within (map row_nodes rest) v limit room
        go false v = part_within (row_nodes r) (map row_nodes rest) v limit room

    pub row_written :
        (out ≡ false → Loud r.outcome) →
        {c : List ℕ} {q : ℕ} →
        Wrote new next (cond out [] (part_nodes 7 (eqb next 0) (row_nodes r))) c q →
        WritingParts 7 [] whole old 0 at c q (map row_nodes rest)
    row_written h {c} {q} v = go out h w v
      where
        go :
            (s : Bool) →
            (s ≡ false → Loud r.outcome) →
            WritingParts 7 [] whole old 0 at new next (map row_nodes (cond s rest (r ∷ rest))) →
            Wrote new next (cond s [] (part_nodes 7 (eqb next 0) (row_nodes r))) c q →
            WritingParts 7 [] whole old 0 at c q (map row_nodes rest)
        go true h u v = none_written (map row_nodes rest) u v
        go false h u v = part_written (row_nodes r) (map row_nodes rest) u (row-some r (h refl)) v

-- what a cell adds; behind its selector stands no place beyond
pub behind-selector :
    (at column : ℕ) (a j : Answer) {b c : List ℕ} {m : ℕ} →
    WroteWhole b (at % 4294967296) (selector column a j) c m →
    m ≤ beyond
behind-selector at column a j v =
    let ends = v.ends in
    let size = selector-size column a j in
    let most = selector_size-most a j in
    omega arith

module _ (first : Bool) (column cell : ℕ) (j : Answer) where
  pub cell_any : (b : List ℕ) (at : ℕ) → 4 ≤ cell → Wrote b at (cell_nodes first column (cell_of cell) j) b at
  cell_any b at h = rw (le-ltb cell 4 h) (wrote_none b at)

  cell_is : cell < 4 → cell_nodes first column (cell_of cell) j ≡ selector column (from_number cell) j ++ behind 6 first
  cell_is h = rw (lt-ltb cell 4 h)

  pub cell_all :
      {b c d : List ℕ} (at : ℕ) {m n x : ℕ} →
      x ≡ number j →
      WroteWhole b (at % 4294967296) (selector (column % 8) (from_number cell) (from_number x)) c m →
      Wrote c m (behind 6 first) d n →
      cell < 4 →
      column < 6 →
      at ≤ limit →
      Wrote b at (cell_nodes first column (cell_of cell) j) d n
  cell_all at e v w h l near =
      let place : at % 4294967296 ≡ at = omega arith in
      let same : column % 8 ≡ column = omega arith in
      rw (cell_is h) (wrote_then (placed_wrote (rw (place, same, e, number_from) at v)) w)

-- what a row adds
module _ (first : Bool) (cells : List ℕ) (j : Answer) where
  pub row_silent : (b : List ℕ) (at : ℕ) → j ≡ Silent → Wrote b at (row_step first (row_with cells j)) b at
  row_silent b at h = rw h (wrote_none b at)

  module _ (h : Loud j) where
    row_is : row_step first (row_with cells j) ≡ row_nodes (row_with cells j) ++ behind 7 first
    row_is = rw (is_silent-loud j h)

    module _ (at : ℕ) (room : at + length (row_step first (row_with cells j)) ≤ limit) where
      pub row_within : at + length (row_nodes (row_with cells j)) ≤ limit
      row_within = within_first (row_nodes (row_with cells j)) (behind 7 first) row_is at limit room

      pub join-within : {b c : List ℕ} {m : ℕ} → Wrote b at (row_nodes (row_with cells j)) c m → m ≤ beyond
      join-within w =
          let row = row_within in
          let ends = w.ends in
          omega arith

    pub row-all :
        {b c d : List ℕ} {at m n : ℕ} →
        Wrote b at (row_nodes (row_with cells j)) c m →
        Wrote c m (behind 7 first) d n →
        Wrote b at (row_step first (row_with cells j)) d n
    row-all v w = rw row_is (wrote_then v w)

-- the loop over the cells of a row
pub cells-start : (j : Answer) (cells b : List ℕ) (at : ℕ) → WritingCells j cells b at b at 0
unfolding row_nodes parts_rest
cells-start j cells b at =
    let parts : List (List ℕ) = selectors 0 j (map cell_of cells) in
    let start = parts_start {operator = 6} {none = number j ∷ []} parts b at at (omega arith) in
    record { inside = omega arith; left = rw (eq-eqb at at refl, lined-together 6 (number j) parts) at start }

module _ (j : Answer) (cells : List ℕ) {old new : List ℕ} {at next : ℕ} (i : ℕ) (w : WritingCells j cells old at new next i) where
  module _ (l : i < length cells) where
    abbrev Left : List ℕ → ℕ → List Cell → Type 0
    Left b m left = WritingParts 6 (number j ∷ []) (row_nodes (row_with cells j)) old at at b m (selectors i j left)

    one_cell : Left new next (cell_of (get_or cells i 0) ∷ map cell_of (drop (suc i) cells))
    one_cell = rw (drop-cons cells i 0 l) at w.left

    pub cell_near : at + length (row_nodes (row_with cells j)) ≤ limit → next ≤ limit
    cell_near room = let ends = w.left.left.ends in omega arith

    pub cells-more :
        Loud j →
        {c : List ℕ} {m : ℕ} →
        Wrote new next (cell_nodes (eqb next at) i (cell_of (get_or cells i 0)) j) c m →
        WritingCells j cells old at c m (i + 1)
    unfolding selectors
    cells-more h {c} {m} v =
        record { inside = omega arith; left = rw (add-one i) (go (cell_of (get_or cells i 0)) one_cell v) }
      where
        go :
            (x : Cell) →
            Left new next (x ∷ map cell_of (drop (suc i) cells)) →
            Wrote new next (cell_nodes (eqb next at) i x j) c m →
            WritingParts 6 (number j ∷ []) (row_nodes (row_with cells j)) old at at c m
            (selectors (suc i) j (map cell_of (drop (suc i) cells)))
        go (is a) u v =
            part_written (selector i a j) (selectors (suc i) j (map cell_of (drop (suc i) cells))) u
            (selector-some i a j h)
            v
        go any u v = none_written (selectors (suc i) j (map cell_of (drop (suc i) cells))) u v

  pub cells-long : length new ≡ length old
  cells-long = w.left.left.long

  module _ (l : length cells ≤ i) where
    no_cell : WritingParts 6 (number j ∷ []) (row_nodes (row_with cells j)) old at at new next []
    unfolding selectors
    no_cell = rw (drop_of_length-le cells {i = i} l) at w.left

    pub outcome-written :
        next ≡ at →
        {x : ℕ} {c : List ℕ} {m : ℕ} →
        x ≡ number j →
        Wrote new next (x ∷ []) c m →
        Wrote old at (row_nodes (row_with cells j)) c m
    outcome-written z e v = instead_written no_cell z (rw e at v)

    pub cells-done : (next ≡ at → ⊥) → Wrote old at (row_nodes (row_with cells j)) new next
    cells-done z = parts_done no_cell z

-- What `put_next_row` needs, and what it does with a silent row.
pub ruleset next_row_laws = (row_silent, row_within, join-within)
