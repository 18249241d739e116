use Rattle.std.proofs.Common.{rules}
use Rattle.faults.proofs.RowFaults.{value_fault_cell}
use Rattle.faults.proofs.check_values.Goals as goal

pub returns-in-Some : goal.returns-in-Some
returns-in-Some c = search (rules, value_fault_cell)
