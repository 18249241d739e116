use Rattle.std.proofs.Common.{rules}
use Rattle.writing.proofs.Rows.{cells-start, cell_near, cells-more, outcome-written, cells-done}
use Rattle.writing.proofs.Nodes.put_row.Goals as goal

pub loop-column-init : goal.loop-column-init
loop-column-init g c = search (rules, cells-start)

pub put_cell-requires : goal.put_cell-requires
put_cell-requires g c = search (rules, cell_near)

pub loop-column-preserved : goal.loop-column-preserved
loop-column-preserved g c = search (rules, cells-more)

pub returns-then-self-start : goal.returns-then-self-start
returns-then-self-start g c = search (rules, outcome-written)

pub returns-else-self-start : goal.returns-else-self-start
returns-else-self-start g c = search (rules, cells-done)
