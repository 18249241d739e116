use Rattle.std.proofs.Common.{rules}
use Rattle.listing.proofs.Returns.{count_room, count-is}
use Rattle.listing.proofs.count_rows.Goals as goal

pub put_rows-requires : goal.put_rows-requires
put_rows-requires c = search (rules, count_room)

pub returns : goal.returns
returns c = search (rules, count-is)
