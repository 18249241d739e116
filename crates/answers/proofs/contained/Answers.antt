use Rattle.answers.proofs.Claims.{contained_bits}
use Rattle.std.proofs.Common.{rules}
use Rattle.answers.proofs.contained.Goals as goal

pub returns : goal.returns
returns c = search (rules, contained_bits)
