use Prim.Native.Nat.{◌-◌}
use Rattle.situations.specs.Inside.{Joining}
use Rattle.situations.proofs.joined.Given as goal

abbrev pub invariant-loop-i : goal.invariant-loop-i
invariant-loop-i l = Joining l.answers l.other l.n l.merged l.i

abbrev pub decreases-loop-i : goal.decreases-loop-i
decreases-loop-i l = l.n - l.i
