use Rattle.std.proofs.Common.{rules}
use Rattle.listing.proofs.Returns.{table_room, table_placed}
use Rattle.listing.proofs.put_table.Goals as goal

pub put_rows-requires : goal.put_rows-requires
put_rows-requires c = search (rules, table_room)

pub returns : goal.returns
returns c = search (rules, table_placed)
