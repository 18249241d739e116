use Rattle.std.proofs.Common.{◌++◌, take}
use Rattle.text.specs.Meaning.{Wrote}
use Rattle.lines.specs.Meaning.{growth_no, answers_text}
use Rattle.lines.proofs.put_no.Given as goal

abbrev pub invariant-loop-answer : goal.invariant-loop-answer
invariant-loop-answer l = Wrote l.fn.page (growth_no ++ answers_text (take l.answer-index l.answers)) l.page
