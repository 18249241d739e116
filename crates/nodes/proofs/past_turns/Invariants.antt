use Rattle.nodes.specs.Inside.{Passed}
use Rattle.nodes.proofs.past_turns.Given as goal

abbrev pub invariant-loop-at : goal.invariant-loop-at
invariant-loop-at l = Passed l.nodes l.from l.at
