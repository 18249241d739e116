use Rattle.std.proofs.Common.{rules}
use Rattle.operands.proofs.Replies.{reply_laws}
use Rattle.operands.specs.Meaning.{two_of}
use Rattle.operands.proofs.two.Goals as goal

pub returns-in_err-check_two : goal.returns-in_err-check_two
unfolding two_of
returns-in_err-check_two c = search (rules, reply_laws)

pub returns : goal.returns
unfolding two_of
returns c = search (rules, reply_laws)
