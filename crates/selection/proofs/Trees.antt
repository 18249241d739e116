-- The nodes of an accepted table, evaluated: what the table says of each situation.
use Prim.Native.Nat.{ℕ}
use mathlib.Core.Path.{◌≡◌, ap, ◌∙◌}
use mathlib.Core.List.{List, []}
use lib.ListN.{length, length-map}
use borrow.Author.Tests.{eq-eqb}
use native.Mathlib.Omega.{arith}
use Rattle.answers.specs.Meaning.{from_number, succeed}
use Rattle.answers.specs.declared.Answer.{Answer}
use Rattle.situations.specs.Meaning.{fault, answers_of}
use Rattle.tables.specs.Meaning.{Table, WellFormed, Consistent, says}
use Rattle.nodes.specs.Meaning.{full, run, evaluate_of}
use Rattle.running.proofs.Leads.{leads_answer}
use Rattle.formula.specs.Meaning.{table_rows, table_nodes}
use Rattle.selection.proofs.Answering.{together-says, all_lead}
use Rattle.selection.proofs.AllRows.{table_rows-wide, table_rows-agree, table_rows-say}

-- at every situation of the table's columns the nodes answer what the table says
pub tree_run :
    (t : Table) →
    WellFormed t →
    Consistent t →
    (s : List Answer) →
    length s ≡ t.columns →
    run full s 0 [] (table_nodes t) ≡ succeed (says t s)
unfolding table_nodes
tree_run t w c s long =
    leads_answer 0 (all_lead 16 s [] (omega arith) (table_rows t) (table_rows-wide t w s long))
    ∙ ap succeed (together-says s (table_rows t) (table_rows-agree t w s long c) ∙ table_rows-say t w s long c)

-- "For every accepted table and every situation of its columns, evaluating the nodes succeeds and answers what the table says."
pub tree_answers :
    (t : Table) →
    WellFormed t →
    Consistent t →
    (s : List ℕ) →
    (fault s).number ≡ 0 →
    length s ≡ t.columns →
    evaluate_of (table_nodes t) s ≡ succeed (says t (answers_of s))
unfolding evaluate_of
tree_answers t w c s h e = rw (eq-eqb (fault s).number 0 h) (tree_run t w c (answers_of s) (length-map s from_number ∙ e))
