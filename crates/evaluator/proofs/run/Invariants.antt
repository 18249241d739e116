use Prim.Native.Nat.{◌-◌}
use lib.ListN.{length}
use Rattle.situations.specs.Meaning.{answers_of}
use Rattle.evaluator.specs.Inside.{Running}
use Rattle.evaluator.proofs.run.Given as goal

abbrev pub invariant-loop-i : goal.invariant-loop-i
invariant-loop-i l = Running l.nodes (answers_of l.situation) l.stack l.height l.i

abbrev pub decreases-loop-i : goal.decreases-loop-i
decreases-loop-i l = length l.nodes - l.i
