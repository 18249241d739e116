use Rattle.std.proofs.Common.{rules}
use Rattle.lines.proofs.Printing.{yes_wrote, no_wrote}
use Rattle.lines.proofs.put_told.Goals as goal

pub returns-then-verdict-eq1 : goal.returns-then-verdict-eq1
returns-then-verdict-eq1 c = search (rules, yes_wrote)

pub returns : goal.returns
returns c = search (rules, no_wrote)
