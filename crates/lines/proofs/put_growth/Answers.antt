use Rattle.std.proofs.Common.{rules}
use Rattle.lines.proofs.Printing.{told_wrote}
use Rattle.lines.proofs.put_growth.Goals as goal

pub returns : goal.returns
returns c = search (rules, told_wrote)
