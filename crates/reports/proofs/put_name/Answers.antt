use Rattle.text.proofs.Printing.{wrote_then}
use Rattle.reports.specs.Meaning.{name_line}
use Rattle.reports.proofs.put_name.Goals as goal

pub returns : goal.returns
unfolding name_line
returns c = wrote_then (wrote_then c.bytes.ensures c.bytes-2.ensures) c.bytes-3.ensures
