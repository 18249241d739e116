use Prim.Native.Nat.{◌-◌}
use lib.ListN.{length}
use Rattle.tables.specs.Inside.{Reading}
use Rattle.tables.proofs.read_rows.Given as goal

abbrev pub invariant-loop-at : goal.invariant-loop-at
invariant-loop-at l = Reading l.n l.start l.table l.at l.left

abbrev pub decreases-loop-at : goal.decreases-loop-at
decreases-loop-at l = length l.table - l.at
