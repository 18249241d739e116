use Rattle.std.proofs.Common.{rules}
use Rattle.tables.proofs.ReadReturns.{read_of_fields, read_of-overlap, read_of_accepts}
use Rattle.tables.proofs.read_table.Goals as goal

pub returns-in_err-read : goal.returns-in_err-read
returns-in_err-read c = search (rules, read_of_fields)

pub returns-in_err-check_overlap : goal.returns-in_err-check_overlap
returns-in_err-check_overlap c = read_of-overlap _ c.read_fields.ensures _ c.in_ok-read.was _ _ c.columns_of.ensures c.rows_of.ensures _ _ c.in_err-check_overlap.ensures (search rules)

pub returns : goal.returns
returns c = read_of_accepts _ c.read_fields.ensures _ c.in_ok-read.was _ _ c.columns_of.ensures c.rows_of.ensures c.in_ok-check_overlap.ensures
