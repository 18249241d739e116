use Rattle.std.proofs.Common.{rules}
use Rattle.writing.proofs.Tables.{written-within, added-within, zero-written, all-written}
use Rattle.writing.proofs.Nodes.put_rows.Goals as goal

pub put_written-requires : goal.put_written-requires
put_written-requires c = search (rules, written-within)

pub put_added-requires : goal.put_added-requires
put_added-requires c = search (rules, added-within)

pub returns-then-self-eq0 : goal.returns-then-self-eq0
returns-then-self-eq0 c = search (rules, zero-written)

pub returns-else-self-eq0 : goal.returns-else-self-eq0
returns-else-self-eq0 c = search (rules, all-written)
