use mathlib.Core.Path.{◌≡◌}
use Rattle.writing.specs.Inside.{WritingCells}
use Rattle.writing.proofs.Nodes.put_row.Given as goal

abbrev pub invariant-loop-column : goal.invariant-loop-column
invariant-loop-column g l = record {
  left : WritingCells l.outcome l.cells l.initial.self.buffer.now l.initial.self.next l.self.buffer.now l.self.next l.column;
  same : l.self.buffer.ghost_name ≡ l.initial.self.buffer.ghost_name;
}
