use Rattle.std.proofs.Common.{rules}
use Rattle.planes.proofs.Extents.{extent_few, extent_many}
use Rattle.planes.proofs.extent_of.Goals as goal

pub returns-then-situations-lt64 : goal.returns-then-situations-lt64
returns-then-situations-lt64 c = search (rules, extent_few)

pub returns-else-situations-lt64 : goal.returns-else-situations-lt64
returns-else-situations-lt64 c = search (rules, extent_many)
