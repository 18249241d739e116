use Prim.Native.Nat.{◌-◌}
use lib.ListN.{length}
use Rattle.weeks.specs.Inside.{Counting}
use Rattle.weeks.proofs.count_each.Given as goal

abbrev pub invariant-loop-at : goal.invariant-loop-at
invariant-loop-at l = Counting l.batch l.voice l.fn.counts l.counts l.left l.at

abbrev pub decreases-loop-at : goal.decreases-loop-at
decreases-loop-at l = length l.batch - l.at
