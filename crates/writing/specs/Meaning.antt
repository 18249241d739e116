-- Writing the nodes of a table: of which rows.
use Rattle.std.specs.Prelude.{ℕ, cond, List, [], ltb, length}

-- The part that holds the rows; one that is longer than 64 rows of six columns counts as empty.
abbrev pub few_rows : List ℕ → List ℕ
few_rows rows = cond (ltb 640 (length rows)) [] rows
