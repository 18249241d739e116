use Rattle.std.proofs.Common.{rules}
use Rattle.operands.proofs.Replies.{reply_laws}
use Rattle.operands.specs.Meaning.{contained_of}
use Rattle.operands.proofs.contained.Goals as goal

pub returns-in_err-check : goal.returns-in_err-check
unfolding contained_of
returns-in_err-check c = search (rules, reply_laws)

pub returns : goal.returns
unfolding contained_of
returns c = search (rules, reply_laws)
