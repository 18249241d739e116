use Rattle.base4.proofs.Shifts.{weight_large, weight_shift}
use Rattle.std.proofs.Common.{rules}
use Rattle.base4.proofs.weight.Goals as goal

pub returns-then-e-gt6 : goal.returns-then-e-gt6
returns-then-e-gt6 c = search (rules, weight_large)

pub returns : goal.returns
returns c = search (rules, weight_shift)
