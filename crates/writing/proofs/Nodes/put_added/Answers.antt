use Rattle.std.proofs.Common.{rules}
use Rattle.selectors.proofs.Silence.{silent_here, not_silent}
use Rattle.writing.proofs.OwnRows.{added_none, own_start, own_number, own_room, own_more, own_done}
use Rattle.writing.proofs.Nodes.put_added.Goals as goal

pub returns-then-eq : goal.returns-then-eq
returns-then-eq c = search (rules, added_none, silent_here)

pub loop-w-init : goal.loop-w-init
loop-w-init c = search (rules, own_start)

pub put_own_row-requires : goal.put_own_row-requires
put_own_row-requires c = search (rules, own_number, own_room)

pub loop-w-preserved : goal.loop-w-preserved
loop-w-preserved c = search (rules, own_more, not_silent)

pub returns : goal.returns
returns c = search (rules, own_done)
