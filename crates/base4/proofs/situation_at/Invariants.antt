use Rattle.situations.specs.Meaning.{situation_at}
use Rattle.base4.specs.Inside.{Spelling}
use Rattle.base4.proofs.situation_at.Given as goal

abbrev pub invariant-loop-i : goal.invariant-loop-i
invariant-loop-i l = Spelling (situation_at l.n l.w) l.answers l.i
