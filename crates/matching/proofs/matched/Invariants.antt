use Rattle.situations.specs.Meaning.{answers_of}
use Rattle.matching.specs.Inside.{MatchingRows}
use Rattle.matching.proofs.matched.Given as goal

abbrev pub invariant-loop-i : goal.invariant-loop-i
invariant-loop-i l = MatchingRows l.columns l.bytes (answers_of l.situation) l.i
