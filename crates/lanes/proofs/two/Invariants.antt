use Prim.Native.Nat.{◌+◌, ◌≤◌}
use lib.ListN.{length}
use Rattle.lanes.specs.Inside.{TwoDone}
use Rattle.lanes.proofs.two.Given as goal

abbrev pub invariant-loop-w : goal.invariant-loop-w
invariant-loop-w g l = (l.at + 64 ≤ length l.initial.stack) × TwoDone (goal.F-post g l.operator) l.at l.w l.initial.stack l.stack
