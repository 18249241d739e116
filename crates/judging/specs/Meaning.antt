-- The text of `tablecheck`: what is printed for the bytes of a table.
use Rattle.std.specs.Prelude.{ℕ, List, ◌++◌}
use Rattle.refusals.specs.Meaning.{after}
use Rattle.text.specs.Meaning.{refusal_line}
use Rattle.tables.specs.Meaning.{table_of}
use Rattle.formula.specs.Meaning.{table_nodes}
use Rattle.compiler.specs.Meaning.{compile_of}
use Rattle.growth.specs.Meaning.{growth_of}
use Rattle.lines.specs.Meaning.{count_lines, growth_line}

-- The table "with 4,223 bytes of room": the lines, or the refusal's.
unfoldable pub text_of : List ℕ → List ℕ
text_of t =
    after (compile_of t 4223).refusal refusal_line
    (count_lines (compile_of t 4223) ++ growth_line (growth_of (table_nodes (table_of t)) (compile_of t 4223).columns))
