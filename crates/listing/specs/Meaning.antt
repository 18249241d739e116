-- The table that lists answers: which rows it has, and what writing its bytes replies and writes.
use Rattle.std.specs.Prelude.{ℕ, cond, List, [], ◌∷◌, ◌++◌, ltb, eqb, length, drop, Result}
use Rattle.refusals.specs.Meaning.{Numbers, none, refused, replied, SITUATION, ROWS, ROOM}
use Rattle.refusals.specs.declared.Refusal.{Refusal}
use Rattle.answers.specs.declared.Answer.{Answer}
use Rattle.situations.specs.Meaning.{outside}
use Rattle.base4.specs.Meaning.{situations_of}
use Rattle.rows.specs.Meaning.{Row}
use Rattle.defaults.specs.Meaning.{unwritten}
use Rattle.tables.specs.Meaning.{Table, table_bytes}
use Rattle.formula.specs.Meaning.{is_silent, own_row}

-- "One row for every situation with an answer other than silent, in base-4 order, no wildcards": the situation's own row.
unfoldable pub listed_rows : (List Answer → Answer) → List (List Answer) → List Row
listed_rows f [] = []
listed_rows f (s ∷ situations) = cond (is_silent (f s)) (listed_rows f situations) (own_row (f s) s ∷ listed_rows f situations)

-- The table of n columns that lists what f answers: "no default field".
abbrev pub listed : (List Answer → Answer) → ℕ → Table
listed f n = record { columns = n; default = unwritten; rows = listed_rows f (situations_of n) }

-- What writing a table replies: how many bytes stand at the buffer's front. "A refusal returns .. any other result number 0."
pub record Written : Type 0 where
  pub refusal : Numbers
  pub length : ℕ

abbrev pub give_written : ℕ → Written
give_written n = record { refusal = none; length = n }

abbrev pub refuse_written : Numbers → Written
refuse_written r = record { refusal = r; length = 0 }

-- The same of a result.
abbrev pub wrote : Result ℕ Refusal → Written
wrote = replied give_written refuse_written

-- "ROWS (place: rows needed) exactly when more than 64 are needed, then ROOM (place: bytes needed)."
unfoldable pub reply_of : ℕ → ℕ → ℕ → Written
reply_of rows needed room =
    cond (ltb 64 rows) (refuse_written (refused ROWS rows))
    (cond (ltb room needed) (refuse_written (refused ROOM needed))
    (record { refusal = none; length = needed }))

-- "SITUATION" for a column count outside 1 to 6 (place: the count), then these.
unfoldable pub list_of : (List Answer → Answer) → ℕ → ℕ → Written
list_of f n room =
    cond (outside n) (refuse_written (refused SITUATION n))
    (reply_of (length (listed f n).rows) (length (table_bytes (listed f n))) room)

-- What the lent bytes are after a reply: on acceptance the first are the table's and the rest are unchanged. A refusal "changes no
-- lent byte".
unfoldable pub written_of : Table → Written → List ℕ → List ℕ
written_of t reply lent = cond (eqb reply.refusal.number 0) (table_bytes t ++ drop (length (table_bytes t)) lent) lent
