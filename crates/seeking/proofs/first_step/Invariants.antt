use Rattle.situations.specs.Meaning.{weight}
use Rattle.steps.specs.Meaning.{in_words, situation_fails}
use Rattle.seeking.specs.Inside.{Seeking}
use Rattle.seeking.proofs.first_step.Given as goal

abbrev pub invariant-loop-word : goal.invariant-loop-word
invariant-loop-word l = Seeking (situation_fails (in_words l.planes.bury l.planes.keep) l.n) (weight l.n) l.word
