use Rattle.planes.specs.Inside.{Stored}
use Rattle.planes.proofs.store.Given as goal

abbrev pub invariant-loop-w : goal.invariant-loop-w
invariant-loop-w l = Stored l.words l.lanes l.w l.initial.all l.all
