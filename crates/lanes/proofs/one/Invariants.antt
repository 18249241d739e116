use Prim.Native.Nat.{◌+◌, ◌≤◌}
use lib.ListN.{length}
use Rattle.lanes.specs.Inside.{OneDone}
use Rattle.lanes.proofs.one.Given as goal

abbrev pub invariant-loop-w : goal.invariant-loop-w
invariant-loop-w g l = (l.at + 32 ≤ length l.initial.stack) × OneDone (goal.F-post g l.operator) l.at l.w l.initial.stack l.stack
