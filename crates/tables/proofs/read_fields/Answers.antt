use Rattle.std.proofs.Common.{rules}
use Rattle.tables.proofs.FirstField.{columns-few}
use Rattle.tables.proofs.ReadReturns.{fields_of-stop, fields_of-default, fields_of-rows}
use Rattle.tables.proofs.read_fields.Goals as goal

pub returns-in_err-check_columns : goal.returns-in_err-check_columns
returns-in_err-check_columns c = search (rules, fields_of-stop)

pub returns-in_err-check : goal.returns-in_err-check
returns-in_err-check c = search (rules, fields_of-default)

pub read_rows-requires : goal.read_rows-requires
read_rows-requires c = search (rules, columns-few)

pub returns : goal.returns
returns c = search (rules, fields_of-rows)
