use Rattle.std.proofs.Common.{rules}
use Rattle.operands.proofs.Replies.{check_laws}
use Rattle.operands.proofs.check.Goals as goal

pub returns-in-Some : goal.returns-in-Some
returns-in-Some c = search (rules, check_laws)

pub returns-in-None : goal.returns-in-None
returns-in-None c = search (rules, check_laws)
