use Rattle.answers.proofs.Claims.{truth_meet_bits}
use Rattle.std.proofs.Common.{rules}
use Rattle.answers.proofs.operators.truth_meet.Goals as goal

pub returns : goal.returns
returns c = search (rules, truth_meet_bits)
