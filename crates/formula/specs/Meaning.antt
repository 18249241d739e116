-- The published formula: the rows of a table, its nodes, and how many they are.
use Rattle.std.specs.Prelude.{ℕ, suc, ◌+◌, ◌-◌, ◌*◌, ◌%◌, Bool, cond, List, [], ◌∷◌, ◌++◌, map, eqb, length, replicate}
use Rattle.answers.specs.Meaning.{number}
use Rattle.answers.specs.declared.Answer.{Answer}
use Rattle.answers.specs.declared.Answer.TheVariants.{Silent, Bury, Keep, Clash}
use Rattle.base4.specs.Meaning.{situations_of}
use Rattle.rows.specs.Meaning.{Cell, is, any, Row}
use Rattle.matching.specs.Meaning.{matched}
use Rattle.defaults.specs.Meaning.{default_answer}
use Rattle.tables.specs.Meaning.{Table}

-- "Nodes 0 to 3: that constant. 4 negate, 5 turn, 6 meet, 7 join. 16 to 21: column 0 to 5."
-- A column and so many turns.
unfoldable pub turned : ℕ → ℕ → List ℕ
turned column k = (16 + column) ∷ replicate k 5

-- "A cell a other than any, in a row with outcome j, becomes one selector. Let k = 3 - a.
-- j keep: column, k turns; column, (k+3) mod 4 turns; meet. j bury: the same, then negate.
-- j clash: column, k turns; column, k turns, negate; meet." (No row with outcome silent is left.)
unfoldable pub selector : ℕ → Answer → Answer → List ℕ
selector column a Silent = []
selector column a Keep = turned column (3 - number a) ++ turned column ((3 - number a + 3) % 4) ++ 6 ∷ []
selector column a Bury = turned column (3 - number a) ++ turned column ((3 - number a + 3) % 4) ++ 6 ∷ 4 ∷ []
selector column a Clash = turned column (3 - number a) ++ turned column (3 - number a) ++ 4 ∷ 6 ∷ []

-- The selectors of a row's cells, in column order.
unfoldable pub selectors : ℕ → Answer → List Cell → List (List ℕ)
selectors column j [] = []
selectors column j (is a ∷ cells) = selector column a j ∷ selectors (suc column) j cells
selectors column j (any ∷ cells) = selectors (suc column) j cells

-- Each part followed by an operator.
unfoldable pub followed : ℕ → List (List ℕ) → List ℕ
followed operator [] = []
followed operator (part ∷ parts) = part ++ operator ∷ followed operator parts

-- The first part, then each further one followed by an operator; without any part a constant.
unfoldable pub together : ℕ → ℕ → List (List ℕ) → List ℕ
together operator constant [] = constant ∷ []
together operator constant (part ∷ parts) = part ++ followed operator parts

-- "A row is its first selector, then each further selector followed by meet, in column order; with every cell any it is the constant j."
unfoldable pub row_nodes : Row → List ℕ
row_nodes r = together 6 (number r.outcome) (selectors 0 r.outcome r.cells)

-- "Rows with outcome silent are left out."
abbrev pub is_silent : Answer → Bool
is_silent a = eqb (number a) 0

unfoldable pub rows_left : List Row → List Row
rows_left [] = []
rows_left (r ∷ rows) = cond (is_silent r.outcome) (rows_left rows) (r ∷ rows_left rows)

-- "The table is its first row, then each further row followed by join; with no row left it is the constant 0."
unfoldable pub rows_nodes : List Row → List ℕ
rows_nodes rows = together 7 0 (map row_nodes (rows_left rows))

-- "For a default other than silent, each situation that no row matches becomes a row of its own, in base-4 order after the
-- written rows."
abbrev pub own_row : Answer → List Answer → Row
own_row d s = record { cells = map is s; outcome = d }

unfoldable pub own_rows : Answer → List Row → List (List Answer) → List Row
own_rows d rows [] = []
own_rows d rows (s ∷ situations) = cond (matched rows s) (own_rows d rows situations) (own_row d s ∷ own_rows d rows situations)

unfoldable pub added_rows : Answer → ℕ → List Row → List Row
added_rows d n rows = cond (is_silent d) [] (own_rows d rows (situations_of n))

-- The written rows and those, of n columns with a default; and of a table.
abbrev pub all_rows : Answer → ℕ → List Row → List Row
all_rows d n rows = rows ++ added_rows d n rows

abbrev pub table_rows : Table → List Row
table_rows t = all_rows (default_answer t.default) t.columns t.rows

unfoldable pub table_nodes : Table → List ℕ
table_nodes t = rows_nodes (table_rows t)

-- "Sizes: keep 1 + k + 1 + (k+3) mod 4 + 1; bury one more; clash 4 + 2k."
unfoldable pub selector_size : Answer → Answer → ℕ
selector_size a Silent = 0
selector_size a Keep = 1 + (3 - number a) + 1 + (3 - number a + 3) % 4 + 1
selector_size a Bury = 1 + (3 - number a) + 1 + (3 - number a + 3) % 4 + 1 + 1
selector_size a Clash = 4 + 2 * (3 - number a)

unfoldable pub selector_sizes : Answer → List Cell → List ℕ
selector_sizes j [] = []
selector_sizes j (is a ∷ cells) = selector_size a j ∷ selector_sizes j cells
selector_sizes j (any ∷ cells) = selector_sizes j cells

unfoldable pub total : List ℕ → ℕ
total [] = 0
total (x ∷ xs) = x + total xs

-- "A row of m selectors, m at least 1, adds m - 1; a row with none counts 1. A table of r rows left, r at least 1, adds r - 1;
-- with none it counts 1."
unfoldable pub size_of : List ℕ → ℕ
size_of [] = 1
size_of (x ∷ xs) = total (x ∷ xs) + length xs

unfoldable pub row_size : Row → ℕ
row_size r = size_of (selector_sizes r.outcome r.cells)

unfoldable pub rows_size : List Row → ℕ
rows_size rows = size_of (map row_size (rows_left rows))

-- "And the node formula counts these."
unfoldable pub table_size : Table → ℕ
table_size t = rows_size (table_rows t)
