use Rattle.std.proofs.Common.{rules}
use Rattle.operands.proofs.Replies.{reply_laws}
use Rattle.operands.specs.Meaning.{replace_of}
use Rattle.operands.proofs.replace.Goals as goal

pub returns-in_err-check : goal.returns-in_err-check
unfolding replace_of
returns-in_err-check c = search (rules, reply_laws)

pub returns : goal.returns
unfolding replace_of
returns c = search (rules, reply_laws)
