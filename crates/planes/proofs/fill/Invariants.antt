use Rattle.planes.specs.Inside.{Filling}
use Rattle.planes.proofs.fill.Given as goal

abbrev pub invariant-loop-number : goal.invariant-loop-number
invariant-loop-number l = Filling l.nodes l.columns l.extent l.number l.bury l.keep
