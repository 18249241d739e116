use Rattle.std.proofs.Common.{rules}
use Rattle.lines.proofs.Printing.{raised_wrote}
use Rattle.lines.proofs.put_raised.Goals as goal

pub returns : goal.returns
returns c = search (rules, raised_wrote)
