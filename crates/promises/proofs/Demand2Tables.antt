-- Demand 2, tables: which bytes are accepted, what an accepted table says, what compiling writes, and what the nodes written answer.
use Prim.Native.Nat.{ℕ, ◌≤◌, ◌<◌}
use mathlib.Core.Path.{◌≡◌, ap, subst, sym, ◌∙◌}
use mathlib.Core.Logic.{◌↔◌, ◌⊎◌}
use mathlib.Core.List.{List, []}
use lib.Dec.{T, eqb}
use lib.ListN.{length, drop, get_or}
use mathlib.Core.Bool.{cond}
use native.Mathlib.Omega.{arith}
use Rattle.answers.specs.declared.Answer.{Answer}
use Rattle.answers.specs.declared.Answer.TheVariants.{Silent}
use Rattle.rows.specs.Meaning.{Cell, row, matches, row_bytes, row_of, Shared, overlap}
use Rattle.tables.specs.Meaning.{TableRead, Table, WellFormed, Consistent, says, table_bytes, accept_table, rows_part, table_of, read_of}
use Rattle.accepting.proofs.SharedSituations.{overlap-matched, matched-overlap}
use Rattle.accepting.proofs.Saying.{says_matching, says-default}
use Rattle.accepting.proofs.TableEncoding.{write_read, write_table, write_row, table_bytes-most, read_write, read_formed, read_consistent}
use Rattle.answers.specs.Meaning.{number, succeed}
use Rattle.situations.specs.Meaning.{fault, answers_of}
use Rattle.nodes.specs.Meaning.{full, run, evaluate_of}
use Rattle.running.proofs.Leads.{leads_answer}
use Rattle.formula.specs.Meaning.{selector, table_nodes, table_size}
use Rattle.compiler.specs.Meaning.{compile_of, written_of}
use Rattle.formula.proofs.Sizes.{table_size_lem}
use Rattle.formula.proofs.MostNodes.{nodes_most}
use Rattle.selection.proofs.Picking.{selector_picks, leads_selector}
use Rattle.selection.proofs.Replies.{accepted_read, accepted_room, accepted_count, accepted_nodes, accepted_rest, fits_accepted}
use Rattle.selection.proofs.Trees.{tree_answers}
use Rattle.promises.specs.Meaning.{Accepts, Unmatched, default_of, Compiles, nodes_written}

-- Bytes are accepted exactly when they are the encoding of some table of 1 to 6 columns and at most 64 rows in which no
-- situation is matched by two rows with different outcomes.
pub accepted_exactly : (bytes : List ℕ) → Accepts bytes ↔ ((t : Table) × WellFormed t × Consistent t × (table_bytes t ≡ bytes))
unfolding Accepts
accepted_exactly bytes = (
  λ h. (table_of bytes, read_formed bytes h, read_consistent bytes h, read_write bytes h),
  λ e. rw e.3 at (ap (λ (x : TableRead). x.refusal.number) (write_read e.0 e.1 e.2)),
)

-- Its encoding is read as that table and no other ..
pub accepted_table : (t : Table) → WellFormed t → table_of (table_bytes t) ≡ t
accepted_table = write_table

-- .. so that no two tables have the same encoding.
pub accepted_only : (t u : Table) → WellFormed t → WellFormed u → table_bytes t ≡ table_bytes u → t ≡ u
accepted_only t u w v e = sym (write_table t w) ∙ ap table_of e ∙ write_table u v

-- Reading its encoding gives a table's number of columns and of rows, and each row stands in the part of the bytes that holds them.
pub accepted_numbers : (t : Table) → WellFormed t → Consistent t → read_of (table_bytes t) ≡ accept_table t.columns (length t.rows)
accepted_numbers = write_read

pub accepted_rows :
    (t : Table) →
    WellFormed t →
    (i : ℕ) →
    i < length t.rows →
    row_of (row_bytes t.columns (rows_part (table_bytes t)) i) ≡ row t.rows i
accepted_rows = write_row

-- No accepted table has more than 6 columns, and none is longer than 648 bytes.
pub accepted_columns : (bytes : List ℕ) → Accepts bytes → (table_of bytes).columns ≤ 6
unfolding Accepts
accepted_columns bytes h = (read_formed bytes h).few-columns

pub accepted_short : (bytes : List ℕ) → Accepts bytes → length bytes ≤ 648
unfolding Accepts
accepted_short bytes h =
    subst (λ (l : List ℕ). length l ≤ 648) (read_write bytes h) (table_bytes-most (table_of bytes) (read_formed bytes h))

-- The test of two rows of cells, cell by cell, finds an overlap exactly if some situation is matched by both.
pub overlap_is_shared : (c d : List Cell) → length c ≡ length d → T (overlap c d) ↔ Shared (length c) c d
overlap_is_shared c d e = (overlap-matched c d e, λ s. matched-overlap c d s.situation s.one s.other)

-- In an accepted table any row that matches a situation gives what the table says ..
pub matching_rows_agree :
    (bytes : List ℕ) →
    Accepts bytes →
    (s : List Answer) →
    length s ≡ (table_of bytes).columns →
    (i : ℕ) →
    i < length (table_of bytes).rows →
    T (matches (row (table_of bytes).rows i).cells s) →
    (row (table_of bytes).rows i).outcome ≡ says (table_of bytes) s
unfolding Accepts
matching_rows_agree bytes h = says_matching (table_of bytes) (read_consistent bytes h)

-- .. and it says its default exactly if no row matches or a matching one says so.
pub default_exactly :
    (bytes : List ℕ) →
    Accepts bytes →
    (s : List Answer) →
    length s ≡ (table_of bytes).columns →
    (says (table_of bytes) s ≡ default_of (table_of bytes))
    ↔ (Unmatched (table_of bytes) s
    ⊎ ((i : ℕ)
    × (i < length (table_of bytes).rows)
    × T (matches (row (table_of bytes).rows i).cells s)
    × ((row (table_of bytes).rows i).outcome ≡ default_of (table_of bytes))))
unfolding Accepts
default_exactly bytes h = says-default (table_of bytes) (read_consistent bytes h)

-- A table is accepted exactly when its bytes are the encoding of a well formed, consistent table, and the published formula
-- is at most the room.
pub compiled_exactly :
    (bytes lent : List ℕ) →
    Compiles bytes lent
    ↔ ((t : Table) × WellFormed t × Consistent t × (table_bytes t ≡ bytes) × (table_size t ≤ length lent))
unfolding Accepts Compiles
compiled_exactly bytes lent = (
  λ h. let read = accepted_read bytes (length lent) h in
      (table_of bytes, read_formed bytes read, read_consistent bytes read, read_write bytes read, accepted_room bytes (length lent) h),
  λ e. let same : table_of bytes ≡ e.0 = ap table_of (sym e.3) ∙ write_table e.0 e.1 in
      fits_accepted bytes (length lent) ((accepted_exactly bytes).1 (e.0, e.1, e.2, e.3)) (rw same e.4),
)

-- The count is the formula: the number of nodes in the reply, and of the nodes themselves ..
pub count_is_formula :
    (bytes lent : List ℕ) →
    Compiles bytes lent →
    ((compile_of bytes (length lent)).nodes ≡ table_size (table_of bytes))
    × (length (table_nodes (table_of bytes)) ≡ table_size (table_of bytes))
unfolding Compiles
count_is_formula bytes lent h = (accepted_count bytes lent h, table_size_lem (table_of bytes))

-- .. and no accepted table needs more than 200,771.
pub count_at_most : (bytes : List ℕ) → Accepts bytes → table_size (table_of bytes) ≤ 200771
unfolding Accepts
count_at_most bytes h = nodes_most (table_of bytes) (read_formed bytes h)

-- An accepted call writes the nodes and nothing else.
pub accepted_writes_nodes :
    (bytes lent : List ℕ) →
    Compiles bytes lent →
    (nodes_written bytes lent ≡ table_nodes (table_of bytes))
    × (drop (compile_of bytes (length lent)).nodes (written_of bytes lent) ≡ drop (compile_of bytes (length lent)).nodes lent)
unfolding Compiles nodes_written
accepted_writes_nodes bytes lent h = (accepted_nodes bytes lent h, accepted_rest bytes lent h)

-- The tree answers as the table says: for an accepted table and every situation of its columns, evaluating the bytes written
-- succeeds and answers what the table says ..
pub tree_says :
    (bytes lent : List ℕ) →
    Compiles bytes lent →
    (s : List ℕ) →
    (fault s).number ≡ 0 →
    length s ≡ (table_of bytes).columns →
    evaluate_of (nodes_written bytes lent) s
    ≡ succeed (says (table_of bytes) (answers_of s))
unfolding Compiles
tree_says bytes lent h s f e =
    let read = accepted_read bytes (length lent) h in
    rw (accepted_writes_nodes bytes lent h).0 (tree_answers (table_of bytes) (read_formed bytes read) (read_consistent bytes read) s f e)

-- A selector picks: for each outcome j other than silent and each cell a, its nodes answer j where its column's answer is a,
-- and silent elsewhere.
pub selector_gives :
    (column : ℕ) (a j : Answer) (s : List Answer) →
    column < 6 →
    column < length s →
    (number j ≡ 0 → ⊥) →
    run full s 0 [] (selector column a j) ≡ succeed (cond (eqb (number a) (number (get_or s column Silent))) j Silent)
selector_gives column a j s six inside loud =
    leads_answer 0 (leads_selector column six inside a j loud (omega arith)) ∙ ap succeed (selector_picks j a (get_or s column Silent))
