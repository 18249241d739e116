use Rattle.situations.specs.Meaning.{weight}
use Rattle.steps.specs.Meaning.{in_words, situation_fails}
use Rattle.steps.specs.Inside.{Looking}
use Rattle.seeking.proofs.first_from.Given as goal

abbrev pub invariant-loop-w : goal.invariant-loop-w
invariant-loop-w l = Looking (situation_fails (in_words l.planes.bury l.planes.keep) l.n) l.from (weight l.n) l.w
