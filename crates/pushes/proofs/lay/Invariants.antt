use Prim.Native.Nat.{◌+◌, ◌≤◌}
use lib.ListN.{length}
use Rattle.pushes.specs.Inside.{LaidSoFar}
use Rattle.pushes.proofs.lay.Given as goal

abbrev pub invariant-loop-w : goal.invariant-loop-w
invariant-loop-w g l = (l.at + 32 ≤ length l.initial.stack) × LaidSoFar (goal.F-post g l.words) l.at l.w l.initial.stack l.stack
