use Rattle.std.proofs.Common.{rules}
use Rattle.reports.proofs.Printing.{numbers_start, numbers_more, numbers_done}
use Rattle.reports.proofs.put_numbers.Goals as goal

pub loop-number-init : goal.loop-number-init
loop-number-init c = search (rules, numbers_start)

pub loop-number-preserved : goal.loop-number-preserved
loop-number-preserved c = search (rules, numbers_more)

pub returns : goal.returns
returns c = search (rules, numbers_done)
