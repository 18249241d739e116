use Prim.Native.Nat.{◌-◌, ◌*◌}
use lib.ListN.{length}
use Rattle.planes.specs.Inside.{Running}
use Rattle.planes.proofs.Pass.run.Given as goal

abbrev pub invariant-loop-i : goal.invariant-loop-i
invariant-loop-i l = Running l.nodes l.self.columns (l.self.number * 16) l.stack l.height l.i

abbrev pub decreases-loop-i : goal.decreases-loop-i
decreases-loop-i l = length l.nodes - l.i
