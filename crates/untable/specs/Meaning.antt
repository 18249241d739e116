-- A table back from a node array: which one, and what a call replies.
use Rattle.std.specs.Prelude.{ℕ, List, replicate}
use Rattle.refusals.specs.Meaning.{after}
use Rattle.tables.specs.Meaning.{Table}
use Rattle.nodes.specs.Meaning.{evaluate_of}
use Rattle.growth.specs.Meaning.{answer_at}
use Rattle.listing.specs.Meaning.{Written, listed, refuse_written, list_of}

-- "From an array and a column count, write a table": the one that lists what the array answers.
abbrev pub table_back : List ℕ → ℕ → Table
table_back nodes n = listed (answer_at nodes) n

-- "Refusals: SITUATION, the evaluator's, then ROWS .., then ROOM." The evaluator's are those at the situation of n columns that is
-- silent everywhere; no refusal of an array depends on the answers.
unfoldable pub untable_of : List ℕ → ℕ → ℕ → Written
untable_of nodes n room = after (evaluate_of nodes (replicate n 0)).refusal refuse_written (list_of (answer_at nodes) n room)
