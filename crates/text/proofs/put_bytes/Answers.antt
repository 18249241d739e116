use Rattle.std.proofs.Common.{rules}
use Rattle.text.proofs.Printing.{printed_over}
use Rattle.text.proofs.put_bytes.Goals as goal

pub returns : goal.returns
returns c = search (rules, printed_over)
