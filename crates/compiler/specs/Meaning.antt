-- Compiling: what a call replies and writes.
use Rattle.std.specs.Prelude.{ℕ, cond, List, ◌++◌, ltb, eqb, length, drop, Result}
use Rattle.refusals.specs.Meaning.{Numbers, none, refused, after, replied, ROOM}
use Rattle.refusals.specs.declared.Refusal.{Refusal}
use Rattle.tables.specs.Meaning.{read_of, table_of}
use Rattle.formula.specs.Meaning.{table_nodes, table_size}
use Rattle.compiler.specs.declared.Sizes.{Sizes}

-- What compiling replies: columns, rows read (not those that a default adds) and nodes written.
pub record Compiled : Type 0 where
  pub refusal : Numbers
  pub columns : ℕ
  pub rows : ℕ
  pub nodes : ℕ

abbrev pub accept_compiled : Sizes → Compiled
accept_compiled s = record { refusal = none; columns = s.columns; rows = s.rows; nodes = s.nodes }

-- "A refusal returns .. any other result number 0."
abbrev pub refuse_compiled : Numbers → Compiled
refuse_compiled r = record { refusal = r; columns = 0; rows = 0; nodes = 0 }

-- The same of a result.
abbrev pub compiled : Result Sizes Refusal → Compiled
compiled = replied accept_compiled refuse_compiled

-- Of a table that was read: "ROOM exactly when the sum exceeds the lent buffer's length" (place: nodes needed).
abbrev pub reply_of : ℕ → ℕ → ℕ → ℕ → Compiled
reply_of room needed columns rows =
    cond (ltb room needed) (refuse_compiled (refused ROOM needed))
    (record { refusal = none; columns = columns; rows = rows; nodes = needed })

-- The reader's refusals, then this one.
unfoldable pub compile_of : List ℕ → ℕ → Compiled
compile_of t room =
    after (read_of t).refusal refuse_compiled (reply_of room (table_size (table_of t)) (read_of t).columns (read_of t).rows)

-- "On acceptance the first bytes are the nodes and the rest are unchanged." A refusal "changes no lent byte".
unfoldable pub written_of : List ℕ → List ℕ → List ℕ
written_of t lent =
    cond (eqb (compile_of t (length lent)).refusal.number 0)
    (table_nodes (table_of t) ++ drop (table_size (table_of t)) lent)
    lent
