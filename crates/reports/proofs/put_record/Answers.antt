use Rattle.text.proofs.Printing.{wrote_then}
use Rattle.reports.specs.Meaning.{record_text}
use Rattle.reports.proofs.put_record.Goals as goal

pub returns : goal.returns
unfolding record_text
returns c = wrote_then (wrote_then c.put_name.ensures c.put_totals.ensures) c.put_numbers.ensures
