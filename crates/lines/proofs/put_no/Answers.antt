use Rattle.std.proofs.Common.{rules}
use Rattle.lines.proofs.Printing.{no_start, no_more, no_done}
use Rattle.lines.proofs.put_no.Goals as goal

pub loop-answer-init : goal.loop-answer-init
loop-answer-init c = search (rules, no_start)

pub loop-answer-preserved : goal.loop-answer-preserved
loop-answer-preserved c = search (rules, no_more)

pub returns : goal.returns
returns c = search (rules, no_done)
