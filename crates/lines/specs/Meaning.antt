-- The lines that `tablecheck` prints for a table that compiles.
use Rattle.std.specs.Prelude.{ℕ, cond, List, [], ◌∷◌, ◌++◌, eqb, take}
use Rattle.text.specs.Meaning.{SPACE, LINE_FEED, number_text, line}
use Rattle.compiler.specs.Meaning.{Compiled}
use Rattle.growth.specs.Meaning.{Growth}

-- The words, each with what stands behind it.
-- "columns "
abbrev pub columns_word : List ℕ
columns_word = 99 ∷ 111 ∷ 108 ∷ 117 ∷ 109 ∷ 110 ∷ 115 ∷ 32 ∷ []

-- "rows "
abbrev pub rows_word : List ℕ
rows_word = 114 ∷ 111 ∷ 119 ∷ 115 ∷ 32 ∷ []

-- "nodes "
abbrev pub nodes_word : List ℕ
nodes_word = 110 ∷ 111 ∷ 100 ∷ 101 ∷ 115 ∷ 32 ∷ []

-- "growth yes" and a line feed
abbrev pub growth_yes : List ℕ
growth_yes = 103 ∷ 114 ∷ 111 ∷ 119 ∷ 116 ∷ 104 ∷ 32 ∷ 121 ∷ 101 ∷ 115 ∷ 10 ∷ []

-- "growth no "
abbrev pub growth_no : List ℕ
growth_no = 103 ∷ 114 ∷ 111 ∷ 119 ∷ 116 ∷ 104 ∷ 32 ∷ 110 ∷ 111 ∷ 32 ∷ []

-- "column "
abbrev pub column_word : List ℕ
column_word = 99 ∷ 111 ∷ 108 ∷ 117 ∷ 109 ∷ 110 ∷ 32 ∷ []

-- "to "
abbrev pub to_word : List ℕ
to_word = 116 ∷ 111 ∷ 32 ∷ []

-- "Lines: columns; rows read; nodes; .."
unfoldable pub count_lines : Compiled → List ℕ
count_lines c = line columns_word c.columns ++ line rows_word c.rows ++ line nodes_word c.nodes

-- ".. the check, with `growth yes` or the situation's answers, the column raised, its new answer."
unfoldable pub answers_text : List ℕ → List ℕ
answers_text [] = []
answers_text (a ∷ answers) = number_text a SPACE ++ answers_text answers

unfoldable pub raised_text : ℕ → ℕ → List ℕ
raised_text column answer = column_word ++ number_text column SPACE ++ to_word ++ number_text answer LINE_FEED

-- A yes is the verdict 1. (The nodes of an accepted table evaluate, so that every other verdict is a no.)
unfoldable pub growth_line : Growth → List ℕ
growth_line g =
    cond (eqb g.verdict 1) growth_yes
    (growth_no ++ answers_text (take g.situation.length g.situation.answers) ++ raised_text g.column g.answer)
