use Rattle.std.proofs.Common.{rules}
use Rattle.situations.proofs.MergeReply.{merge_laws}
use Rattle.situations.proofs.Situation.check_merge.Goals as goal

pub returns-in_err-check : goal.returns-in_err-check
returns-in_err-check c = search (rules, merge_laws)

pub returns-in_err-check-2 : goal.returns-in_err-check-2
returns-in_err-check-2 c = search (rules, merge_laws)

pub returns-then-self-length : goal.returns-then-self-length
returns-then-self-length c = search (rules, merge_laws)

pub returns : goal.returns
returns c = search (rules, merge_laws)
