use Rattle.std.proofs.Common.{take}
use Rattle.text.specs.Meaning.{Wrote}
use Rattle.reports.specs.Meaning.{number_lines}
use Rattle.reports.proofs.put_numbers.Given as goal

abbrev pub invariant-loop-number : goal.invariant-loop-number
invariant-loop-number l = Wrote l.fn.page (number_lines 0 (take l.number l.numbers)) l.page
