use Rattle.std.proofs.Common.{rules}
use Rattle.text.proofs.Printing.{wrote_then}
use Rattle.reports.specs.Meaning.{total_lines}
use Rattle.reports.proofs.put_totals.Goals as goal

pub returns : goal.returns
unfolding total_lines
returns c = search (rules, wrote_then)
