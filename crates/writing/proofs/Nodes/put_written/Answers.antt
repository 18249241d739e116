use Rattle.std.proofs.Common.{rules}
use Rattle.writing.proofs.WrittenRows.{cells-few, rows_start, next_row_within, rows_more, rows-done}
use Rattle.writing.proofs.Nodes.put_written.Goals as goal

pub loop-i-init : goal.loop-i-init
loop-i-init c = search (rules, rows_start)

pub put_next_row-requires : goal.put_next_row-requires
put_next_row-requires c = search (rules, cells-few, next_row_within)

pub loop-i-preserved : goal.loop-i-preserved
loop-i-preserved c = search (rules, rows_more)

pub returns : goal.returns
returns c = search (rules, rows-done)
