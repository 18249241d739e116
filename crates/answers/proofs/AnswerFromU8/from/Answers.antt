use Rattle.answers.proofs.Claims.{from_large}
use Rattle.std.proofs.Common.{rules}
use Rattle.answers.proofs.AnswerFromU8.from.Goals as goal

pub returns-in_default : goal.returns-in_default
returns-in_default c = search (rules, from_large)
