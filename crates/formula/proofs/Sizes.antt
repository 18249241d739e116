-- The count is the formula: the nodes of a selector, a row and a table are as many as the published sizes say.
use Prim.Native.Nat.{ℕ, suc, ◌+◌, ◌-◌, ◌%◌}
use mathlib.Core.Path.{◌≡◌, refl, ap, ap₂, ◌∙◌}
use mathlib.Core.List.{List, [], ◌∷◌, ◌++◌, map}
use lib.ListN.{length, length-append, length-replicate}
use native.Mathlib.Omega.{arith}
use Rattle.answers.specs.Meaning.{number}
use Rattle.answers.specs.declared.Answer.{Answer}
use Rattle.answers.specs.declared.Answer.TheVariants.{Silent, Bury, Keep, Clash}
use Rattle.rows.specs.Meaning.{Cell, is, any, Row}
use Rattle.tables.specs.Meaning.{Table}
use Rattle.formula.specs.Meaning.{turned, selector, selectors, followed, together, row_nodes, rows_left}
use Rattle.formula.specs.Meaning.{rows_nodes, table_rows, table_nodes}
use Rattle.formula.specs.Meaning.{selector_size, selector_sizes, total, size_of, row_size, rows_size, table_size}

pub turned-size : (column turns : ℕ) → length (turned column turns) ≡ suc turns
unfolding turned
turned-size column turns = ap suc (length-replicate {A = ℕ} turns 5)

three : (xs ys zs : List ℕ) → length (xs ++ ys ++ zs) ≡ length xs + length ys + length zs
three xs ys zs = simp length-append

pub selector-size : (column : ℕ) (a j : Answer) → length (selector column a j) ≡ selector_size a j
unfolding selector selector_size
selector-size column a Silent = refl
selector-size column a Keep =
    three (turned column (3 - number a)) (turned column ((3 - number a + 3) % 4)) (6 ∷ [])
    ∙ (rw (turned-size column (3 - number a), turned-size column ((3 - number a + 3) % 4)) (omega arith))
selector-size column a Bury =
    three (turned column (3 - number a)) (turned column ((3 - number a + 3) % 4)) (6 ∷ 4 ∷ [])
    ∙ (rw (turned-size column (3 - number a), turned-size column ((3 - number a + 3) % 4)) (omega arith))
selector-size column a Clash =
    three (turned column (3 - number a)) (turned column (3 - number a)) (4 ∷ 6 ∷ [])
    ∙ (rw (turned-size column (3 - number a)) (omega arith))

pub selectors-size : (column : ℕ) (j : Answer) (cells : List Cell) → map length (selectors column j cells) ≡ selector_sizes j cells
unfolding selectors selector_sizes
selectors-size column j [] = refl
selectors-size column j (is a ∷ cells) = ap₂ (λ x xs. x ∷ xs) (selector-size column a j) (selectors-size (suc column) j cells)
selectors-size column j (any ∷ cells) = selectors-size (suc column) j cells

followed-size :
    (operator : ℕ) (parts : List (List ℕ)) →
    length (followed operator parts) ≡ total (map length parts) + length (map (length {A = ℕ}) parts)
unfolding followed total
followed-size operator [] = refl
followed-size operator (part ∷ parts) =
    length-append part (operator ∷ followed operator parts) ∙ (let rest = followed-size operator parts in omega arith)

pub together-size : (operator constant : ℕ) (parts : List (List ℕ)) → length (together operator constant parts) ≡ size_of (map length parts)
unfolding together size_of total
together-size operator constant [] = refl
together-size operator constant (part ∷ parts) =
    length-append part (followed operator parts) ∙ (let rest = followed-size operator parts in omega arith)

pub row-size : (r : Row) → length (row_nodes r) ≡ row_size r
unfolding row_nodes row_size
row-size r =
    together-size 6 (number r.outcome) (selectors 0 r.outcome r.cells)
    ∙ ap size_of (selectors-size 0 r.outcome r.cells)

row_sizes : (rows : List Row) → map length (map row_nodes rows) ≡ map row_size rows
row_sizes [] = refl
row_sizes (r ∷ rows) = ap₂ (λ x xs. x ∷ xs) (row-size r) (row_sizes rows)

pub rows-size : (rows : List Row) → length (rows_nodes rows) ≡ rows_size rows
unfolding rows_nodes rows_size
rows-size rows = together-size 7 0 (map row_nodes (rows_left rows)) ∙ ap size_of (row_sizes (rows_left rows))

pub table_size_lem : (t : Table) → length (table_nodes t) ≡ table_size t
unfolding table_nodes table_size
table_size_lem t = rows-size (table_rows t)
