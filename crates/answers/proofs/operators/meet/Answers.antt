use Rattle.answers.proofs.Claims.{meet_bits}
use Rattle.std.proofs.Common.{rules}
use Rattle.answers.proofs.operators.meet.Goals as goal

pub returns : goal.returns
returns c = search (rules, meet_bits)
