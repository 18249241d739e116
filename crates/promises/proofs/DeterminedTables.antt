-- Each public function's contract determines what it returns and every lent byte. Here: tables, nodes, texts, faces.
-- `Post` is the contract itself, as the checker reads it off the source.
use mathlib.Core.Path.{sym, ◌∙◌}
use Rattle.refusals.proofs.Apart.{checked-apart}
use Rattle.promises.proofs.Apart.{table_read-apart, compiled-apart, answered-apart, climbed-apart, filled-apart, told-apart, growth_told-apart, raised-apart, wrote-apart}
use Rattle.promises.specs.Meaning.{Determined, DeterminedPart, DeterminedLent, DeterminedMade, DeterminedPage}
use Rattle.rows.proofs.Rows.count as rows-count
use Rattle.rows.proofs.Rows.row as rows-row
use Rattle.rows.proofs.cells as rows-cells
use Rattle.rows.proofs.outcome as rows-outcome
use Rattle.rows.proofs.Rows.check_overlap as rows-check-overlap
use Rattle.matching.proofs.matched as matching-matched
use Rattle.faults.proofs.check_columns as faults-check-columns
use Rattle.faults.proofs.check_row as faults-check-row
use Rattle.defaults.proofs.size as defaults-size
use Rattle.defaults.proofs.check as defaults-check
use Rattle.defaults.proofs.answer as defaults-answer
use Rattle.tables.proofs.default_of as tables-default-of
use Rattle.tables.proofs.rows_of as tables-rows-of
use Rattle.tables.proofs.read_table as tables-read-table
use Rattle.selectors.proofs.put_selector as selectors-put-selector
use Rattle.writing.proofs.put_table as writing-put-table
use Rattle.compiler.proofs.compile as compiler-compile
use Rattle.nodes.proofs.NodeFromU8.from as nodes-from-byte
use Rattle.nodes.proofs.full as nodes-full
use Rattle.nodes.proofs.climb as nodes-climb
use Rattle.nodes.proofs.past as nodes-past
use Rattle.evaluator.proofs.evaluate as evaluator-evaluate
use Rattle.planes.proofs.fill as planes-fill
use Rattle.steps.proofs.step_from as steps-step-from
use Rattle.seeking.proofs.first_step as seeking-first-step
use Rattle.growth.proofs.neither as growth-neither
use Rattle.growth.proofs.ToldFromVerdict.from as growth-told-verdict
use Rattle.growth.proofs.check_growth as growth-check-growth
use Rattle.listing.proofs.list as listing-list
use Rattle.untable.proofs.untable as untable-untable
use Rattle.text.proofs.put_bytes as text-put-bytes
use Rattle.text.proofs.pages.Page.new as text-new
use Rattle.text.proofs.pages.Page.at as text-at
use Rattle.text.proofs.pages.Page.written as text-written
use Rattle.text.proofs.pages.Page.bytes as text-bytes
use Rattle.text.proofs.pages.Page.number as text-number
use Rattle.text.proofs.pages.Page.line as text-line
use Rattle.text.proofs.pages.Page.refused as text-refused
use Rattle.text.proofs.pages.Page.refusal as text-refusal
use Rattle.lines.proofs.put_counts as lines-put-counts
use Rattle.lines.proofs.put_told as lines-put-told
use Rattle.lines.proofs.put_growth as lines-put-growth
use Rattle.judging.proofs.judge as judging-judge
use Rattle.reports.proofs.put_record as reports-put-record
use Rattle.reports.proofs.put_batch as reports-put-batch
use Rattle.decimals.proofs.number_in as decimals-number-in
use Rattle.input.proofs.move_front as input-move-front
use Rattle.face.proofs.CarmAnswerFromTuple2NumbersAnswer.from as face-answer-numbers
use Rattle.face.proofs.CarmAnswerFromTuple2NumbersBool.from as face-contained-numbers
use Rattle.face.proofs.CarmCompiledFromTuple2NumbersSizes.from as face-compiled-numbers
use Rattle.face.proofs.CarmMergedFromTuple2NumbersSituation.from as face-merged-numbers
use Rattle.face.proofs.CarmGrowthFromTuple2NumbersTold.from as face-growth-numbers
use Rattle.face.proofs.CarmNoticedFromTuple2NumbersUsize.from as face-noticed-numbers
use Rattle.face.proofs.CarmHeardFromTuple2NumbersPossible.from as face-heard-numbers
use Rattle.face.proofs.CarmWeekFromTuple2NumbersCounts.from as face-week-numbers
use Rattle.face.proofs.CarmWrittenFromTuple2NumbersUsize.from as face-written-numbers
use Rattle.face.proofs.CarmAnswerFromResultAnswerRefusal.from as face-answer
use Rattle.face.proofs.CarmAnswerFromResultBoolRefusal.from as face-contained
use Rattle.face.proofs.CarmCompiledFromResultSizesRefusal.from as face-compiled
use Rattle.face.proofs.SituationFromCarmSituation.from as face-situation-behind
use Rattle.face.proofs.CarmSituationFromSituation.from as face-situation
use Rattle.face.proofs.CarmMergedFromResultSituationUnmerged.from as face-merged
use Rattle.face.proofs.CarmGrowthFromResultVerdictRefusal.from as face-growth
use Rattle.face.proofs.CarmNoticedFromResultUsizeRefusal.from as face-noticed
use Rattle.face.proofs.CarmHeardFromResultPossibleRefusal.from as face-heard
use Rattle.face.proofs.CarmWeekFromWeek.from as face-week
use Rattle.face.proofs.CarmWrittenFromResultUsizeRefusal.from as face-written

pub rows_count_determined : Determined rows-count.Kinds.ps rows-count.Kinds.r rows-count.Reads.Post
rows_count_determined = record { result = λ κs a x y s t p q. p ∙ sym q }

pub rows_row_determined : DeterminedPart rows-row.Kinds.ps 0 tt rows-row.Reads.Post
rows_row_determined = record { bytes = λ κs a x y s t p q. p ∙ sym q }

pub rows_cells_determined : DeterminedPart rows-cells.Kinds.ps 0 tt rows-cells.Reads.Post
rows_cells_determined = record { bytes = λ κs a x y s t p q. p ∙ sym q }

pub rows_outcome_determined : Determined rows-outcome.Kinds.ps rows-outcome.Kinds.r rows-outcome.Reads.Post
rows_outcome_determined = record { result = λ κs a x y s t p q. p ∙ sym q }

pub rows_check_overlap_determined : Determined rows-check-overlap.Kinds.ps rows-check-overlap.Kinds.r rows-check-overlap.Reads.Post
rows_check_overlap_determined = record { result = λ κs a x y s t p q. checked-apart x y (p ∙ sym q) }

pub matching_matched_determined : Determined matching-matched.Kinds.ps matching-matched.Kinds.r matching-matched.Reads.Post
matching_matched_determined = record { result = λ κs a x y s t p q. p ∙ sym q }

pub faults_check_columns_determined : Determined faults-check-columns.Kinds.ps faults-check-columns.Kinds.r faults-check-columns.Reads.Post
faults_check_columns_determined = record { result = λ κs a x y s t p q. checked-apart x y (p ∙ sym q) }

pub faults_check_row_determined : Determined faults-check-row.Kinds.ps faults-check-row.Kinds.r faults-check-row.Reads.Post
faults_check_row_determined = record { result = λ κs a x y s t p q. checked-apart x y (p ∙ sym q) }

pub defaults_size_determined : Determined defaults-size.Kinds.ps defaults-size.Kinds.r defaults-size.Reads.Post
defaults_size_determined = record { result = λ κs a x y s t p q. p ∙ sym q }

pub defaults_check_determined : Determined defaults-check.Kinds.ps defaults-check.Kinds.r defaults-check.Reads.Post
defaults_check_determined = record { result = λ κs a x y s t p q. checked-apart x y (p ∙ sym q) }

pub defaults_answer_determined : Determined defaults-answer.Kinds.ps defaults-answer.Kinds.r defaults-answer.Reads.Post
defaults_answer_determined = record { result = λ κs a x y s t p q. p ∙ sym q }

pub tables_default_of_determined : Determined tables-default-of.Kinds.ps tables-default-of.Kinds.r tables-default-of.Reads.Post
tables_default_of_determined = record { result = λ κs a x y s t p q. p ∙ sym q }

pub tables_rows_of_determined : DeterminedPart tables-rows-of.Kinds.ps 0 tt tables-rows-of.Reads.Post
tables_rows_of_determined = record { bytes = λ κs a x y s t p q. p ∙ sym q }

pub tables_read_table_determined : Determined tables-read-table.Kinds.ps tables-read-table.Kinds.r tables-read-table.Reads.Post
tables_read_table_determined = record { result = λ κs a x y s t p q. table_read-apart x y (p ∙ sym q) }

pub selectors_put_selector_determined : DeterminedLent selectors-put-selector.Kinds.ps selectors-put-selector.Kinds.r selectors-put-selector.Reads.Post (λ κs s. s.0.now)
selectors_put_selector_determined = record { result = λ κs a x y s t p q. p.ends ∙ sym q.ends; lent = λ κs a x y s t p q. p.holds ∙ sym q.holds }

pub writing_put_table_determined : DeterminedLent writing-put-table.Kinds.ps writing-put-table.Kinds.r writing-put-table.Reads.Post (λ κs s. s.0.now)
writing_put_table_determined = record { result = λ κs a x y s t p q. p.ends ∙ sym q.ends; lent = λ κs a x y s t p q. p.holds ∙ sym q.holds }

pub compiler_compile_determined : DeterminedLent compiler-compile.Kinds.ps compiler-compile.Kinds.r compiler-compile.Reads.Post (λ κs s. s.1.0.now)
compiler_compile_determined = record { result = λ κs a x y s t p q. compiled-apart x y (p.0 ∙ sym q.0); lent = λ κs a x y s t p q. p.1 ∙ sym q.1 }

pub nodes_from_byte_determined : Determined nodes-from-byte.Kinds.ps nodes-from-byte.Kinds.r nodes-from-byte.Reads.Post
nodes_from_byte_determined = record { result = λ κs a x y s t p q. p ∙ sym q }

pub nodes_full_determined : Determined nodes-full.Kinds.ps nodes-full.Kinds.r nodes-full.Reads.Post
nodes_full_determined = record { result = λ κs a x y s t p q. p ∙ sym q }

pub nodes_climb_determined : Determined nodes-climb.Kinds.ps nodes-climb.Kinds.r nodes-climb.Reads.Post
nodes_climb_determined = record { result = λ κs a x y s t p q. climbed-apart x y (p ∙ sym q) }

pub nodes_past_determined : Determined nodes-past.Kinds.ps nodes-past.Kinds.r nodes-past.Reads.Post
nodes_past_determined = record { result = λ κs a x y s t p q. p ∙ sym q }

pub evaluator_evaluate_determined : Determined evaluator-evaluate.Kinds.ps evaluator-evaluate.Kinds.r evaluator-evaluate.Reads.Post
evaluator_evaluate_determined = record { result = λ κs a x y s t p q. answered-apart x y (p ∙ sym q) }

pub planes_fill_determined : Determined planes-fill.Kinds.ps planes-fill.Kinds.r planes-fill.Reads.Post
planes_fill_determined = record { result = λ κs a x y s t p q. filled-apart x y (p ∙ sym q) }

pub steps_step_from_determined : Determined steps-step-from.Kinds.ps steps-step-from.Kinds.r steps-step-from.Reads.Post
steps_step_from_determined = record { result = λ κs a x y s t p q. raised-apart _ _ x y p.1 q.1 (p.0 ∙ sym q.0) }

pub seeking_first_step_determined : Determined seeking-first-step.Kinds.ps seeking-first-step.Kinds.r seeking-first-step.Reads.Post
seeking_first_step_determined = record { result = λ κs a x y s t p q. raised-apart _ _ x y p.1 q.1 (p.0 ∙ sym q.0) }

pub growth_neither_determined : Determined growth-neither.Kinds.ps growth-neither.Kinds.r growth-neither.Reads.Post
growth_neither_determined = record { result = λ κs a x y s t p q. told-apart x y (p ∙ sym q) }

pub growth_told_verdict_determined : Determined growth-told-verdict.Kinds.ps growth-told-verdict.Kinds.r growth-told-verdict.Reads.Post
growth_told_verdict_determined = record { result = λ κs a x y s t p q. told-apart x y (p ∙ sym q) }

pub growth_check_growth_determined : Determined growth-check-growth.Kinds.ps growth-check-growth.Kinds.r growth-check-growth.Reads.Post
growth_check_growth_determined = record { result = λ κs a x y s t p q. growth_told-apart x y (p ∙ sym q) }

pub listing_list_determined :
    DeterminedLent listing-list.Kinds.ps listing-list.Kinds.r listing-list.Reads.Post (λ κs s. s.1.1.0.now)
listing_list_determined =
    record {
      result = λ κs a x y s t p q. wrote-apart x y (p.0 ∙ sym q.0);
      lent = λ κs a x y s t p q. (rw (p.0 ∙ sym q.0) at p.1) ∙ sym q.1;
    }

pub untable_untable_determined :
    DeterminedLent untable-untable.Kinds.ps untable-untable.Kinds.r untable-untable.Reads.Post (λ κs s. s.1.1.0.now)
untable_untable_determined =
    record {
      result = λ κs a x y s t p q. wrote-apart x y (p.0 ∙ sym q.0);
      lent = λ κs a x y s t p q. (rw (p.0 ∙ sym q.0) at p.1) ∙ sym q.1;
    }

pub text_put_bytes_determined : DeterminedLent text-put-bytes.Kinds.ps text-put-bytes.Kinds.r text-put-bytes.Reads.Post (λ κs s. s.0.now)
text_put_bytes_determined = record { result = λ κs a x y s t p q. p.ends ∙ sym q.ends; lent = λ κs a x y s t p q. p.holds ∙ sym q.holds }

pub text_new_determined : DeterminedMade text-new.Kinds.ps text-new.Kinds.r text-new.Reads.Post (λ κs x. x)
text_new_determined =
    record {
      lent = λ κs a x y s t p q. p.bytes ∙ sym q.bytes;
      same = λ κs a x y s t p q. p.same ∙ sym q.same;
      next = λ κs a x y s t p q. p.front ∙ sym q.front;
    }

pub text_at_determined : DeterminedMade text-at.Kinds.ps text-at.Kinds.r text-at.Reads.Post (λ κs x. x)
text_at_determined =
    record {
      lent = λ κs a x y s t p q. p.bytes ∙ sym q.bytes;
      same = λ κs a x y s t p q. p.same ∙ sym q.same;
      next = λ κs a x y s t p q. p.here ∙ sym q.here;
    }

pub text_written_determined : DeterminedPart text-written.Kinds.ps 0 tt text-written.Reads.Post
text_written_determined = record { bytes = λ κs a x y s t p q. p ∙ sym q }

pub text_bytes_determined : DeterminedPage text-bytes.Kinds.ps text-bytes.Kinds.r text-bytes.Reads.Post (λ κs s. s.0.now)
text_bytes_determined =
    record {
      lent = λ κs a x y s t p q. p.printed.holds ∙ sym q.printed.holds;
      same = λ κs a x y s t p q. p.same ∙ sym q.same;
      next = λ κs a x y s t p q. p.printed.ends ∙ sym q.printed.ends;
    }

pub text_number_determined : DeterminedPage text-number.Kinds.ps text-number.Kinds.r text-number.Reads.Post (λ κs s. s.0.now)
text_number_determined =
    record {
      lent = λ κs a x y s t p q. p.printed.holds ∙ sym q.printed.holds;
      same = λ κs a x y s t p q. p.same ∙ sym q.same;
      next = λ κs a x y s t p q. p.printed.ends ∙ sym q.printed.ends;
    }

pub text_line_determined : DeterminedPage text-line.Kinds.ps text-line.Kinds.r text-line.Reads.Post (λ κs s. s.0.now)
text_line_determined =
    record {
      lent = λ κs a x y s t p q. p.printed.holds ∙ sym q.printed.holds;
      same = λ κs a x y s t p q. p.same ∙ sym q.same;
      next = λ κs a x y s t p q. p.printed.ends ∙ sym q.printed.ends;
    }

pub text_refused_determined : DeterminedPage text-refused.Kinds.ps text-refused.Kinds.r text-refused.Reads.Post (λ κs s. s.0.now)
text_refused_determined =
    record {
      lent = λ κs a x y s t p q. p.printed.holds ∙ sym q.printed.holds;
      same = λ κs a x y s t p q. p.same ∙ sym q.same;
      next = λ κs a x y s t p q. p.printed.ends ∙ sym q.printed.ends;
    }

pub text_refusal_determined : DeterminedPage text-refusal.Kinds.ps text-refusal.Kinds.r text-refusal.Reads.Post (λ κs s. s.0.now)
text_refusal_determined =
    record {
      lent = λ κs a x y s t p q. p.printed.holds ∙ sym q.printed.holds;
      same = λ κs a x y s t p q. p.same ∙ sym q.same;
      next = λ κs a x y s t p q. p.printed.ends ∙ sym q.printed.ends;
    }

pub lines_put_counts_determined : DeterminedPage lines-put-counts.Kinds.ps lines-put-counts.Kinds.r lines-put-counts.Reads.Post (λ κs s. s.0.now)
lines_put_counts_determined =
    record {
      lent = λ κs a x y s t p q. p.printed.holds ∙ sym q.printed.holds;
      same = λ κs a x y s t p q. p.same ∙ sym q.same;
      next = λ κs a x y s t p q. p.printed.ends ∙ sym q.printed.ends;
    }

pub lines_put_told_determined : DeterminedPage lines-put-told.Kinds.ps lines-put-told.Kinds.r lines-put-told.Reads.Post (λ κs s. s.0.now)
lines_put_told_determined =
    record {
      lent = λ κs a x y s t p q. p.printed.holds ∙ sym q.printed.holds;
      same = λ κs a x y s t p q. p.same ∙ sym q.same;
      next = λ κs a x y s t p q. p.printed.ends ∙ sym q.printed.ends;
    }

pub lines_put_growth_determined : DeterminedPage lines-put-growth.Kinds.ps lines-put-growth.Kinds.r lines-put-growth.Reads.Post (λ κs s. s.0.now)
lines_put_growth_determined =
    record {
      lent = λ κs a x y s t p q. p.printed.holds ∙ sym q.printed.holds;
      same = λ κs a x y s t p q. p.same ∙ sym q.same;
      next = λ κs a x y s t p q. p.printed.ends ∙ sym q.printed.ends;
    }

pub judging_judge_determined : DeterminedLent judging-judge.Kinds.ps judging-judge.Kinds.r judging-judge.Reads.Post (λ κs s. s.1.0.now)
judging_judge_determined = record { result = λ κs a x y s t p q. p.0 ∙ sym q.0; lent = λ κs a x y s t p q. p.1 ∙ sym q.1 }

pub face_answer_numbers_determined : Determined face-answer-numbers.Kinds.ps face-answer-numbers.Kinds.r face-answer-numbers.Reads.Post
face_answer_numbers_determined = record { result = λ κs a x y s t p q. p ∙ sym q }

pub face_contained_numbers_determined : Determined face-contained-numbers.Kinds.ps face-contained-numbers.Kinds.r face-contained-numbers.Reads.Post
face_contained_numbers_determined = record { result = λ κs a x y s t p q. p ∙ sym q }

pub face_compiled_numbers_determined : Determined face-compiled-numbers.Kinds.ps face-compiled-numbers.Kinds.r face-compiled-numbers.Reads.Post
face_compiled_numbers_determined = record { result = λ κs a x y s t p q. p ∙ sym q }

pub face_merged_numbers_determined : Determined face-merged-numbers.Kinds.ps face-merged-numbers.Kinds.r face-merged-numbers.Reads.Post
face_merged_numbers_determined = record { result = λ κs a x y s t p q. p ∙ sym q }

pub face_growth_numbers_determined : Determined face-growth-numbers.Kinds.ps face-growth-numbers.Kinds.r face-growth-numbers.Reads.Post
face_growth_numbers_determined = record { result = λ κs a x y s t p q. p ∙ sym q }

pub face_noticed_numbers_determined : Determined face-noticed-numbers.Kinds.ps face-noticed-numbers.Kinds.r face-noticed-numbers.Reads.Post
face_noticed_numbers_determined = record { result = λ κs a x y s t p q. p ∙ sym q }

pub face_heard_numbers_determined : Determined face-heard-numbers.Kinds.ps face-heard-numbers.Kinds.r face-heard-numbers.Reads.Post
face_heard_numbers_determined = record { result = λ κs a x y s t p q. p ∙ sym q }

pub face_week_numbers_determined : Determined face-week-numbers.Kinds.ps face-week-numbers.Kinds.r face-week-numbers.Reads.Post
face_week_numbers_determined = record { result = λ κs a x y s t p q. p ∙ sym q }

pub face_written_numbers_determined : Determined face-written-numbers.Kinds.ps face-written-numbers.Kinds.r face-written-numbers.Reads.Post
face_written_numbers_determined = record { result = λ κs a x y s t p q. p ∙ sym q }

pub face_answer_determined : Determined face-answer.Kinds.ps face-answer.Kinds.r face-answer.Reads.Post
face_answer_determined = record { result = λ κs a x y s t p q. p ∙ sym q }

pub face_contained_determined : Determined face-contained.Kinds.ps face-contained.Kinds.r face-contained.Reads.Post
face_contained_determined = record { result = λ κs a x y s t p q. p ∙ sym q }

pub face_compiled_determined : Determined face-compiled.Kinds.ps face-compiled.Kinds.r face-compiled.Reads.Post
face_compiled_determined = record { result = λ κs a x y s t p q. p ∙ sym q }

pub face_situation_behind_determined : Determined face-situation-behind.Kinds.ps face-situation-behind.Kinds.r face-situation-behind.Reads.Post
face_situation_behind_determined = record { result = λ κs a x y s t p q. p ∙ sym q }

pub face_situation_determined : Determined face-situation.Kinds.ps face-situation.Kinds.r face-situation.Reads.Post
face_situation_determined = record { result = λ κs a x y s t p q. p ∙ sym q }

pub face_merged_determined : Determined face-merged.Kinds.ps face-merged.Kinds.r face-merged.Reads.Post
face_merged_determined = record { result = λ κs a x y s t p q. p ∙ sym q }

pub face_growth_determined : Determined face-growth.Kinds.ps face-growth.Kinds.r face-growth.Reads.Post
face_growth_determined = record { result = λ κs a x y s t p q. p ∙ sym q }

pub face_noticed_determined : Determined face-noticed.Kinds.ps face-noticed.Kinds.r face-noticed.Reads.Post
face_noticed_determined = record { result = λ κs a x y s t p q. p ∙ sym q }

pub face_heard_determined : Determined face-heard.Kinds.ps face-heard.Kinds.r face-heard.Reads.Post
face_heard_determined = record { result = λ κs a x y s t p q. p ∙ sym q }

pub face_week_determined : Determined face-week.Kinds.ps face-week.Kinds.r face-week.Reads.Post
face_week_determined = record { result = λ κs a x y s t p q. p ∙ sym q }

pub reports_put_record_determined : DeterminedPage reports-put-record.Kinds.ps reports-put-record.Kinds.r reports-put-record.Reads.Post (λ κs s. s.0.now)
reports_put_record_determined =
    record {
      lent = λ κs a x y s t p q. p.printed.holds ∙ sym q.printed.holds;
      same = λ κs a x y s t p q. p.same ∙ sym q.same;
      next = λ κs a x y s t p q. p.printed.ends ∙ sym q.printed.ends;
    }

pub reports_put_batch_determined : DeterminedPage reports-put-batch.Kinds.ps reports-put-batch.Kinds.r reports-put-batch.Reads.Post (λ κs s. s.0.now)
reports_put_batch_determined =
    record {
      lent = λ κs a x y s t p q. p.printed.holds ∙ sym q.printed.holds;
      same = λ κs a x y s t p q. p.same ∙ sym q.same;
      next = λ κs a x y s t p q. p.printed.ends ∙ sym q.printed.ends;
    }

pub decimals_number_in_determined : Determined decimals-number-in.Kinds.ps decimals-number-in.Kinds.r decimals-number-in.Reads.Post
decimals_number_in_determined = record { result = λ κs a x y s t p q. p ∙ sym q }

pub input_move_front_determined :
    DeterminedLent input-move-front.Kinds.ps input-move-front.Kinds.r input-move-front.Reads.Post (λ κs s. s.0.now)
input_move_front_determined =
    record {
      result = λ κs a x y s t p q. p.all ∙ sym q.all;
      lent = λ κs a x y s t p q. p.holds ∙ (rw (p.all ∙ sym q.all) (sym q.holds));
    }

pub face_written_determined : Determined face-written.Kinds.ps face-written.Kinds.r face-written.Reads.Post
face_written_determined = record { result = λ κs a x y s t p q. p ∙ sym q }
