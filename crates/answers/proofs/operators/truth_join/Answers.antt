use Rattle.answers.proofs.Claims.{truth_join_bits}
use Rattle.std.proofs.Common.{rules}
use Rattle.answers.proofs.operators.truth_join.Goals as goal

pub returns : goal.returns
returns c = search (rules, truth_join_bits)
