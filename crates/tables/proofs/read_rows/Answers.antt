use Rattle.std.proofs.Common.{rules, refl}
use Rattle.tables.proofs.RowsRead.{reading_more, reading_left, reading_stop, reading_all}
use Rattle.tables.proofs.read_rows.Goals as goal

pub returns-in_err-check_row : goal.returns-in_err-check_row
returns-in_err-check_row c = search (rules, reading_stop)

pub overflow_sub-left : goal.overflow_sub-left
overflow_sub-left c = search (rules, reading_left)

pub loop-at-preserved : goal.loop-at-preserved
loop-at-preserved c = reading_more _ _ _ _ _ c.loop-at.invariant c.loop-at-test.true c.in_ok-check_row.ensures refl

pub returns : goal.returns
returns c = search (rules, reading_all)
