use Rattle.std.proofs.Common.{rules}
use Rattle.text.proofs.Printing.{wrote_then}
use Rattle.lines.specs.Meaning.{count_lines}
use Rattle.lines.proofs.put_counts.Goals as goal

pub returns : goal.returns
unfolding count_lines
returns c = search (rules, wrote_then)
