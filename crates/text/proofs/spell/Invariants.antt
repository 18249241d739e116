use Rattle.text.specs.Inside.{Spelling}
use Rattle.text.proofs.spell.Given as goal

abbrev pub invariant-loop-at : goal.invariant-loop-at
invariant-loop-at l = Spelling l.n l.rest l.digits l.at
