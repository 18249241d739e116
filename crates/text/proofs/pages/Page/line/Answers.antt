use Rattle.std.proofs.Common.{rules}
use Rattle.text.proofs.Printing.{wrote_then}
use Rattle.text.proofs.pages.Page.line.Goals as goal

pub returns : goal.returns
returns c = search (rules, wrote_then)
