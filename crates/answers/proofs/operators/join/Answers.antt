use Rattle.answers.proofs.Claims.{join_bits}
use Rattle.std.proofs.Common.{rules}
use Rattle.answers.proofs.operators.join.Goals as goal

pub returns : goal.returns
returns c = search (rules, join_bits)
