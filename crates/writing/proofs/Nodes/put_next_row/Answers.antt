use Rattle.std.proofs.Common.{rules}
use Rattle.selectors.proofs.Silence.{not_silent}
use Rattle.writing.proofs.Rows.{row-all}
use Rattle.writing.proofs.Nodes.put_next_row.Goals as goal

pub returns : goal.returns
returns c = search (rules, row-all, not_silent)
