use Rattle.std.proofs.Common.{rules}
use Rattle.judging.proofs.Texts.{judged_length, judged_written}
use Rattle.judging.proofs.judge.Goals as goal

pub returns : goal.returns
returns c = search (rules, judged_length, judged_written)
