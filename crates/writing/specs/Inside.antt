-- What the private functions and their loops say among themselves. Nothing here has to be believed: the laws tie it to the formula.
use Rattle.std.specs.Prelude.{ℕ, ◌-◌, ◌≤◌, ◌<◌, ◌≡◌, Bool, cond, List, [], ◌∷◌, ◌++◌, map, eqb, length, drop, get_or}
use Rattle.lent.specs.Inside.{Wrote, Writing}
use Rattle.answers.specs.Meaning.{number}
use Rattle.answers.specs.declared.Answer.{Answer}
use Rattle.answers.specs.declared.Answer.TheVariants.{Silent}
use Rattle.situations.specs.Meaning.{weight}
use Rattle.base4.specs.Meaning.{situations_from, situations_of}
use Rattle.rows.specs.Meaning.{Cell, is, any, Row, cell_of, row_count, rows_of, rows_in}
use Rattle.matching.specs.Meaning.{matched}
use Rattle.writing.specs.declared.Nodes.{Nodes}
use Rattle.formula.specs.Meaning.{selector, selectors, followed, row_nodes, rows_left, is_silent, own_row, own_rows}

-- nodes are put behind those that stand in the buffer, which stays the one that was lent
pub record Put (old : Nodes) (xs : List ℕ) (new : Nodes) : Type 0 where
  pub put : Wrote old.buffer.now old.next xs new.buffer.now new.next
  pub same : new.buffer.ghost_name ≡ old.buffer.ghost_name

-- no place where a selector starts passes it, and up to it places are told apart
abbrev pub limit : ℕ
limit = 4294967295

-- the place behind a selector that starts there, at the most
abbrev pub beyond : ℕ
beyond = 4294967305

-- an outcome that is not silent
abbrev pub Loud : Answer → Type 0
Loud j = j ≡ Silent → ⊥

-- a row of cells with an outcome
abbrev pub row_with : List ℕ → Answer → Row
row_with cells j = record { cells = map cell_of cells; outcome = j }

-- what stands behind a part: its operator, unless the part is the first
abbrev pub behind : ℕ → Bool → List ℕ
behind operator first = cond first [] (operator ∷ [])

abbrev pub part_nodes : ℕ → Bool → List ℕ → List ℕ
part_nodes operator first part = part ++ behind operator first

-- what one cell adds, and one row
abbrev pub cell_nodes : Bool → ℕ → Cell → Answer → List ℕ
cell_nodes first column (is a) j = part_nodes 6 first (selector column a j)
cell_nodes first column any j = []

abbrev pub row_step : Bool → Row → List ℕ
row_step first r = cond (is_silent r.outcome) [] (part_nodes 7 first (row_nodes r))

-- cells that are answers
abbrev pub Certain : List ℕ → Type 0
Certain cells = (k : ℕ) → k < length cells → get_or cells k 0 < 4

-- what the situation's own row adds, where no row matches it
abbrev pub own_step : Bool → Answer → List Row → List Answer → List ℕ
own_step first d rows s = cond (matched rows s) [] (part_nodes 7 first (row_nodes (own_row d s)))

-- parts one behind another, each further one followed by an operator; some nodes instead where there is none
unfoldable pub lined : ℕ → List ℕ → List (List ℕ) → List ℕ
lined operator none [] = none
lined operator none (part ∷ parts) = part ++ followed operator parts

-- what the parts from one on add, where the first one may still have to come
unfoldable pub parts_rest : ℕ → List ℕ → Bool → List (List ℕ) → List ℕ
parts_rest operator none first parts = cond first (lined operator none parts) (followed operator parts)

-- what rows add
abbrev pub row_parts : List Row → List (List ℕ)
row_parts rows = map row_nodes (rows_left rows)

abbrev pub rows_step : Bool → List Row → List ℕ
rows_step first rows = parts_rest 7 [] first (row_parts rows)

-- parts are written from a place on, and these are left: none is written yet exactly where the next place is the first part's
pub record WritingParts
    (operator : ℕ)
    (none whole old : List ℕ)
    (start at : ℕ)
    (new : List ℕ)
    (next : ℕ)
    (parts : List (List ℕ)) :
    Type 0 where
  pub past : start ≤ next
  pub left : Writing old at whole new next (parts_rest operator none (eqb next start) parts)

-- i cells of a row are written
pub record WritingCells (j : Answer) (cells old : List ℕ) (at : ℕ) (new : List ℕ) (next i : ℕ) : Type 0 where
  pub inside : i ≤ length cells
  pub left :
      WritingParts 6 (number j ∷ []) (row_nodes (row_with cells j)) old at at new next (selectors i j (map cell_of (drop i cells)))

-- i rows of a part are written
pub record WritingRows (rows : List ℕ) (n : ℕ) (old : List ℕ) (at : ℕ) (new : List ℕ) (next i : ℕ) : Type 0 where
  pub inside : i ≤ row_count n rows
  pub left :
      WritingParts 7 [] (rows_step (eqb at 0) (rows_in n rows)) old 0 at new next (row_parts (rows_of n rows i (row_count n rows - i)))

-- the own rows of w situations are written
pub record WritingOwn (d : Answer) (rows : List Row) (n : ℕ) (old : List ℕ) (at : ℕ) (new : List ℕ) (next w : ℕ) : Type 0 where
  pub inside : w ≤ weight n
  pub left :
      WritingParts 7 [] (rows_step (eqb at 0) (own_rows d rows (situations_of n))) old 0 at new next
      (row_parts (own_rows d rows (situations_from n w (weight n - w))))
