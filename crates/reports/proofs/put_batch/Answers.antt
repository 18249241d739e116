use Rattle.text.proofs.Printing.{wrote_then}
use Rattle.reports.specs.Meaning.{batch_line}
use Rattle.reports.proofs.put_batch.Goals as goal

pub returns : goal.returns
unfolding batch_line
returns c = wrote_then c.bytes.ensures c.refused.ensures
