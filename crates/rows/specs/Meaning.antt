-- Rows: what one is, which situations it matches, its bytes, the rows that a part of a table holds, and which two disagree.
use Rattle.std.specs.Prelude.{ℕ, zero, suc, ◌+◌, ◌-◌, ◌*◌, ◌/◌, ◌≡◌, Bool, true, false, cond, not, ◌&&◌, List, [], ◌∷◌, ◌++◌, map, T, ltb, eqb, length, take, drop, get_or}
use Rattle.refusals.specs.Meaning.{Numbers, none, first_refusal, OVERLAP}
use Rattle.fields.specs.Meaning.{field}
use Rattle.answers.specs.Meaning.{number, from_number}
use Rattle.answers.specs.declared.Answer.{Answer}
use Rattle.answers.specs.declared.Answer.TheVariants.{Silent}

-- What a row is.

-- "A cell is an answer 0 to 3 or 4 for any."
pub data Cell : Type 0 where
  is : Answer → Cell
  any : Cell

-- "n cells, then the outcome."
pub record Row : Type 0 where
  pub cells : List Cell
  pub outcome : Answer

-- Row i of a list of rows; past its end a row without cells, which nobody asks for.
abbrev pub row : List Row → ℕ → Row
row rows i = get_or rows i (record { cells = []; outcome = Silent })

-- "A row matches it when each cell is 4 or equals that column's answer."
abbrev pub cell_matches : Cell → Answer → Bool
cell_matches (is a) b = eqb (number a) (number b)
cell_matches any b = true

unfoldable pub matches : List Cell → List Answer → Bool
matches [] s = true
matches (c ∷ cells) [] = false
matches (c ∷ cells) (a ∷ s) = cell_matches c a && matches cells s

-- Its bytes. "An answer 0 to 3 or 4 for any."
abbrev pub cell_byte : Cell → ℕ
cell_byte (is a) = number a
cell_byte any = 4

-- "Rows, tag 2, length n+1: n cells, then the outcome."
abbrev pub row_field : Row → List ℕ
row_field r = field 2 (map cell_byte r.cells ++ (number r.outcome ∷ []))

unfoldable pub row_fields : List Row → List ℕ
row_fields [] = []
row_fields (r ∷ rows) = row_field r ++ row_fields rows

-- The rows of n cells in the part of a table that holds them, one behind another.

-- A header of three bytes, n cells, the outcome.
abbrev pub row_width : ℕ → ℕ
row_width n = n + 4

-- How many rows a part holds. No row has more than 6 cells.
unfoldable pub row_count : ℕ → List ℕ → ℕ
row_count n rows = cond (ltb 6 n) 0 (length rows / row_width n)

-- Row i's bytes, header included; empty where there is none.
unfoldable pub row_bytes : ℕ → List ℕ → ℕ → List ℕ
row_bytes n rows i = cond (ltb i (row_count n rows)) (take (row_width n) (drop (i * row_width n) rows)) []

-- What stands in a row's bytes: behind the header the cells, and last the outcome.
abbrev pub cell_of : ℕ → Cell
cell_of b = cond (ltb b 4) (is (from_number b)) any

abbrev pub cell_bytes : List ℕ → List ℕ
cell_bytes b = take (length b - 4) (drop 3 b)

abbrev pub outcome_of : List ℕ → Answer
outcome_of b = from_number (get_or b (length b - 1) 0)

abbrev pub row_of : List ℕ → Row
row_of b = record { cells = map cell_of (cell_bytes b); outcome = outcome_of b }

-- The m rows from row i on, and all that the part holds.
unfoldable pub rows_of : ℕ → List ℕ → ℕ → ℕ → List Row
rows_of n rows i zero = []
rows_of n rows i (suc m) = row_of (row_bytes n rows i) ∷ rows_of n rows (suc i) m

abbrev pub rows_in : ℕ → List ℕ → List Row
rows_in n rows = rows_of n rows 0 (row_count n rows)

-- Which rows disagree.

-- "Some situation is matched by two rows with different outcomes": a situation of n answers that both match.
pub record Shared (n : ℕ) (c d : List Cell) : Type 0 where
  pub situation : List Answer
  pub wide : length situation ≡ n
  pub one : T (matches c situation)
  pub other : T (matches d situation)

pub record Disagree (n : ℕ) (p q : Row) : Type 0 where
  pub shared : Shared n p.cells q.cells
  pub differ : p.outcome ≡ q.outcome → ⊥

-- The test of it, cell by cell: can one answer match both? That it is this very property is proved.
abbrev pub cells_share : Cell → Cell → Bool
cells_share (is a) (is b) = eqb (number a) (number b)
cells_share (is a) any = true
cells_share any c = true

unfoldable pub overlap : List Cell → List Cell → Bool
overlap [] d = true
overlap (c ∷ cells) [] = true
overlap (c ∷ cells) (d ∷ others) = cells_share c d && overlap cells others

abbrev pub disagree : Row → Row → Bool
disagree p q = overlap p.cells q.cells && not (eqb (number p.outcome) (number q.outcome))

-- "The search of pairs stops at the first such pair": later rows from the first on, and for each the earlier ones.
abbrev pub pair_fault : (ℕ → ℕ → Bool) → ℕ → ℕ → Numbers
pair_fault bad later earlier = cond (bad later earlier) (record { number = OVERLAP; place = later; second = earlier }) none

unfoldable pub overlap_of : (ℕ → ℕ → Bool) → ℕ → Numbers
overlap_of bad later = first_refusal (pair_fault bad later) later

unfoldable pub overlap_in : (ℕ → ℕ → Bool) → ℕ → Numbers
overlap_in bad rows = first_refusal (overlap_of bad) rows

unfoldable pub disagree_at : ℕ → List ℕ → ℕ → ℕ → Bool
disagree_at n rows later earlier = disagree (row_of (row_bytes n rows later)) (row_of (row_bytes n rows earlier))

abbrev pub first_overlap : ℕ → List ℕ → Numbers
first_overlap n rows = overlap_in (disagree_at n rows) (row_count n rows)
