use Rattle.base4.specs.Inside.{Indexing}
use Rattle.base4.proofs.index.Given as goal

abbrev pub invariant-loop-i : goal.invariant-loop-i
invariant-loop-i l = Indexing l.situation l.w l.i
