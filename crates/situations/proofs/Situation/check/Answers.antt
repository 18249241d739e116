use Rattle.situations.proofs.Bytewise.{prefix_inside, prefix_long}
use Rattle.situations.proofs.Faults.{fault_of-long, fault_of_slice}
use Rattle.std.proofs.Common.{rules}
use Rattle.situations.proofs.Situation.check.Goals as goal

pub returns-then-length-gt6 : goal.returns-then-length-gt6
returns-then-length-gt6 c = search (rules, fault_of-long)

pub slice_bounds-answers-end : goal.slice_bounds-answers-end
slice_bounds-answers-end c = search (rules, prefix_inside)

pub slice_bounds-check-end : goal.slice_bounds-check-end
slice_bounds-check-end c = search (rules, prefix_long)

pub returns : goal.returns
returns c = search (rules, fault_of_slice)
