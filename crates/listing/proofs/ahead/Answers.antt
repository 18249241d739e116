use Rattle.std.proofs.Common.{rules}
use Rattle.listing.proofs.Words.{ahead-low, ahead-high, ahead-end}
use Rattle.listing.proofs.ahead.Goals as goal

pub returns-then-low-gt1 : goal.returns-then-low-gt1
returns-then-low-gt1 c = search (rules, ahead-low)

pub returns-then-high-gt1 : goal.returns-then-high-gt1
returns-then-high-gt1 c = search (rules, ahead-high)

pub returns : goal.returns
returns c = search (rules, ahead-end)
