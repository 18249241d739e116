-- The checked examples that document 01 marks to be proved, as one table under one theorem; and what is printed for an input as it
-- came, of which the first 1,024 bytes are judged, letter by letter.
use mathlib.Core.Path.{◌≡◌, refl, ap, ◌∙◌}
use mathlib.Core.List.{[], ◌∷◌}
use lib.ListN.{take, replicate}
use native.Mathlib.Omega.{arith}
use Rattle.refusals.specs.Meaning.{first_refusal, refused, ROWS, ROOM}
use Rattle.fields.specs.Meaning.{first_above}
use Rattle.answers.specs.Meaning.{number, from_number, turn, truth_meet, join, implication, replace}
use Rattle.situations.specs.Meaning.{fault, situation_at}
use Rattle.base4.specs.Meaning.{situations_from}
use Rattle.matching.specs.Meaning.{matched}
use Rattle.rows.specs.Meaning.{matches, row_count, row_bytes, rows_of, row_fields, overlap, overlap_of, overlap_in, disagree_at}
use Rattle.faults.specs.Meaning.{value_fault, columns_fault, row_fault}
use Rattle.defaults.specs.Meaning.{default_fault}
use Rattle.tables.specs.Meaning.{table_of, rows_from, fields_of, read_of, table_bytes}
use Rattle.nodes.specs.Meaning.{climb, act, run, evaluate_of}
use Rattle.formula.specs.Meaning.{turned, selector, selectors, followed, together, row_nodes, rows_left, rows_nodes, own_rows, added_rows, table_nodes, selector_size, selector_sizes, total, size_of, row_size, rows_size, table_size}
use Rattle.formula.proofs.MostNodes.{worst}
use Rattle.compiler.specs.Meaning.{compile_of}
use Rattle.steps.specs.Meaning.{first_from, first_answer, column_fails, first_column, situation_fails, first_situation}
use Rattle.growth.specs.Meaning.{growth_of}
use Rattle.text.specs.Meaning.{decimal_onto, decimal, number_text, refusal_line}
use Rattle.lines.specs.Meaning.{count_lines, answers_text, raised_text, growth_line}
use Rattle.judging.specs.Meaning.{text_of}
use Rattle.listing.specs.Meaning.{refuse_written, listed_rows, reply_of, list_of}
use Rattle.listing.specs.Meaning as listing
use Rattle.untable.specs.Meaning.{untable_of}
use Rattle.promises.specs.Meaning.{lent_back, bytes_back, laptop_back, laptop_text, empty_text, no_rows_text, large_table, large_text, nodes_of, keep_at_keep, bury_at_silent, no_rows, clash_at_any, laptop, keep_else_bury, keep_else_bury_text, most_text}
use Rattle.promises.proofs.Defaults.{worst_accepted, worst_needs}
use Rattle.promises.proofs.Demand3Printed.{prints_room}

-- 1 to 6: turn of 3 is 0; truth meet 0, 3 is 1; join 1, 2 is 3; implication 0, 1 is 2; implication 3, 1 is 1; replace 1 in 1 by 2 is 2.
-- 7 to 10: the nodes of the four small tables. 11: L needs 65 nodes. 12: L at (0, 1) answers 1, at (2, 1) answers 2.
pub examples :
    (number (turn (from_number 3)) ≡ 0)
    × (number (truth_meet (from_number 0) (from_number 3)) ≡ 1)
    × (number (join (from_number 1) (from_number 2)) ≡ 3)
    × (number (implication (from_number 0) (from_number 1)) ≡ 2)
    × (number (implication (from_number 3) (from_number 1)) ≡ 1)
    × (number (replace (from_number 1) (from_number 1) (from_number 2)) ≡ 2)
    × (nodes_of keep_at_keep ≡ 16 ∷ 5 ∷ 16 ∷ 6 ∷ [])
    × (nodes_of bury_at_silent ≡ 16 ∷ 5 ∷ 5 ∷ 5 ∷ 16 ∷ 5 ∷ 5 ∷ 6 ∷ 4 ∷ [])
    × (nodes_of no_rows ≡ 0 ∷ [])
    × (nodes_of clash_at_any ≡ 3 ∷ [])
    × (table_size (table_of laptop) ≡ 65)
    × (number (evaluate_of (nodes_of laptop) (0 ∷ 1 ∷ [])).answer ≡ 1)
    × (number (evaluate_of (nodes_of laptop) (2 ∷ 1 ∷ [])).answer ≡ 2)
unfolding nodes_of keep_at_keep bury_at_silent no_rows clash_at_any laptop first_refusal first_above fault row_count row_bytes rows_of climb act run evaluate_of turned selector selectors followed together row_nodes rows_left rows_nodes added_rows table_nodes selector_size selector_sizes total size_of row_size rows_size table_size
examples = (refl, refl, refl, refl, refl, refl, refl, refl, refl, refl, refl, refl, refl)

-- The laptop table is judged as document 01 prints it.
pub laptop_judged : text_of (take 1024 laptop) ≡ laptop_text
unfolding laptop first_refusal first_above fault situation_at row_count row_bytes rows_of overlap overlap_of overlap_in disagree_at value_fault columns_fault default_fault row_fault rows_from fields_of read_of climb act run evaluate_of turned selector selectors followed together row_nodes rows_left rows_nodes added_rows table_nodes selector_size selector_sizes total size_of row_size rows_size table_size compile_of first_from first_answer column_fails first_column situation_fails first_situation growth_of decimal_onto decimal number_text count_lines answers_text raised_text growth_line text_of
laptop_judged = refl

-- An input of no bytes is refused.
pub empty_judged : text_of (take 1024 []) ≡ empty_text
unfolding columns_fault fields_of read_of compile_of decimal_onto decimal number_text refusal_line text_of
empty_judged = refl

-- The table without rows, silent everywhere, grows.
pub no_rows_judged : text_of (take 1024 no_rows) ≡ no_rows_text
unfolding no_rows first_refusal first_above fault situation_at row_count row_bytes rows_of overlap overlap_of overlap_in disagree_at value_fault columns_fault default_fault row_fault rows_from fields_of read_of climb act run evaluate_of turned selector selectors followed together row_nodes rows_left rows_nodes added_rows table_nodes selector_size selector_sizes total size_of row_size rows_size table_size compile_of first_from first_answer column_fails first_column situation_fails first_situation growth_of decimal_onto decimal number_text count_lines answers_text raised_text growth_line text_of
no_rows_judged = refl

-- A table of more than 512 bytes is judged as a whole.
pub large_judged : text_of (take 1024 (table_bytes large_table)) ≡ large_text
unfolding row_fields first_refusal first_above fault situation_at row_count row_bytes rows_of overlap overlap_of overlap_in disagree_at value_fault columns_fault default_fault row_fault rows_from fields_of read_of climb act run evaluate_of turned selector selectors followed together row_nodes rows_left rows_nodes added_rows table_nodes selector_size selector_sizes total size_of row_size rows_size table_size compile_of first_from first_answer column_fails first_column situation_fails first_situation growth_of decimal_onto decimal number_text count_lines answers_text raised_text growth_line text_of
large_judged = refl

-- Document 02: "bury unless a line says otherwise", with a line that says keep. Its nodes are those of that row and of the three
-- situations that it does not match, and it does not grow.
pub default_judged : text_of (take 1024 keep_else_bury) ≡ keep_else_bury_text
unfolding keep_else_bury first_refusal first_above fault situation_at row_count row_bytes rows_of overlap overlap_of overlap_in disagree_at value_fault columns_fault default_fault row_fault rows_from fields_of read_of climb act run evaluate_of turned selector selectors followed together row_nodes rows_left rows_nodes added_rows own_rows matched matches situations_from table_nodes selector_size selector_sizes total size_of row_size rows_size table_size compile_of first_from first_answer column_fails first_column situation_fails first_situation growth_of decimal_onto decimal number_text count_lines answers_text raised_text growth_line text_of
default_judged = refl

-- The table that needs the most nodes is refused: `tablecheck` has no room for them.
pub most_judged : text_of (take 1024 (table_bytes worst)) ≡ most_text
unfolding decimal_onto decimal number_text refusal_line
most_judged =
    prints_room (table_bytes worst) worst_accepted (rw worst_needs (omega arith)) ∙ ap (λ n. refusal_line (refused ROOM n)) worst_needs

-- Document 02: tables given back. From the nodes of the laptop table one of 15 rows; from the constant keep one of four rows at one
-- column, and none at four columns, where 256 rows are needed; from the constant silent one without rows, behind which the lent bytes
-- stay.
pub backs :
    (bytes_back (nodes_of laptop) 2 (replicate 94 0) ≡ laptop_back)
    × (untable_of (nodes_of laptop) 2 93 ≡ refuse_written (refused ROOM 94))
    × (bytes_back (2 ∷ []) 1 (replicate 24 0)
    ≡ 1 ∷ 0 ∷ 1 ∷ 1 ∷ 2 ∷ 0 ∷ 2 ∷ 0 ∷ 2 ∷ 2 ∷ 0 ∷ 2 ∷ 1 ∷ 2 ∷ 2 ∷ 0 ∷ 2 ∷ 2 ∷ 2 ∷ 2 ∷ 0 ∷ 2 ∷ 3 ∷ 2 ∷ [])
    × (untable_of (2 ∷ []) 4 644 ≡ refuse_written (refused ROWS 256))
    × (lent_back (0 ∷ []) 1 (9 ∷ 9 ∷ 9 ∷ 9 ∷ 9 ∷ []) ≡ 1 ∷ 0 ∷ 1 ∷ 1 ∷ 9 ∷ [])
unfolding laptop nodes_of bytes_back lent_back untable_of list_of reply_of listing.written_of listed_rows first_refusal first_above fault situation_at situations_from row_count row_bytes rows_of row_fields climb act run evaluate_of turned selector selectors followed together row_nodes rows_left rows_nodes added_rows table_nodes
backs = (refl, refl, refl, refl, refl)
