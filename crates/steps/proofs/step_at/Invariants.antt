use Rattle.situations.specs.Meaning.{situation_at}
use Rattle.steps.specs.Meaning.{in_words, column_fails}
use Rattle.steps.specs.Inside.{Looking}
use Rattle.steps.proofs.step_at.Given as goal

abbrev pub invariant-loop-column : goal.invariant-loop-column
invariant-loop-column l = Looking (column_fails (in_words l.planes.bury l.planes.keep) (situation_at l.n l.w)) 0 l.n l.column
