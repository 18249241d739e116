use Rattle.base4.proofs.Shifts.{digit_large, digit_shift}
use Rattle.std.proofs.Common.{rules}
use Rattle.base4.proofs.digit.Goals as goal

pub returns-then-e-gt31 : goal.returns-then-e-gt31
returns-then-e-gt31 c = search (rules, digit_large)

pub returns : goal.returns
returns c = search (rules, digit_shift)
