use Prim.Native.Nat.{◌-◌}
use lib.ListN.{length as list_length}
use Rattle.batches.specs.Inside.{Walking}
use Rattle.batches.proofs.walk.Given as goal

abbrev pub invariant-loop-rest : goal.invariant-loop-rest
invariant-loop-rest l = Walking l.ended l.part l.fn.left l.left l.length

abbrev pub decreases-loop-rest : goal.decreases-loop-rest
decreases-loop-rest l = list_length l.part - l.length
