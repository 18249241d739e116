use Rattle.situations.proofs.Columns.{column-digit}
use Rattle.base4.proofs.Spellings.{column-none}
use Rattle.std.proofs.Common.{rules}
use Rattle.base4.proofs.column.Goals as goal

pub returns-then-i-n : goal.returns-then-i-n
returns-then-i-n c = search (rules, column-digit)

pub returns : goal.returns
returns c = search (rules, column-none)
