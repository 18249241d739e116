use Rattle.std.proofs.Common.{rules}
use Rattle.base4.proofs.Shifts.{weight-columns}
use Rattle.situations.proofs.Bytewise.{prefix_inside, prefix_long}
use Rattle.writing.proofs.OwnRows.{own_short, own_certain, own_matched, own_within, own_join, own_all}
use Rattle.writing.proofs.Nodes.put_own_row.Goals as goal

pub slice_bounds-answers-end : goal.slice_bounds-answers-end
slice_bounds-answers-end c = search (rules, prefix_inside, weight-columns)

pub slice_bounds-cells-end : goal.slice_bounds-cells-end
slice_bounds-cells-end c = search (rules, prefix_long, weight-columns)

pub returns-then-matched : goal.returns-then-matched
returns-then-matched c = search (rules, own_matched)

pub put_row-requires : goal.put_row-requires
put_row-requires c = search (rules, own_short, own_certain, own_within)

pub put_operator-requires : goal.put_operator-requires
put_operator-requires c = search (rules, own_join)

pub returns : goal.returns
returns c = search (rules, own_all)
