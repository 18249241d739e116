use Rattle.std.proofs.Common.{rules}
use Rattle.reports.proofs.Printing.{number_none, number_wrote}
use Rattle.reports.proofs.put_number.Goals as goal

pub returns-then-count-eq0 : goal.returns-then-count-eq0
returns-then-count-eq0 c = search (rules, number_none)

pub returns : goal.returns
returns c = search (rules, number_wrote)
