use mathlib.Core.Path.{◌≡◌}
use Rattle.writing.specs.Inside.{WritingRows}
use Rattle.writing.proofs.Nodes.put_written.Given as goal

abbrev pub invariant-loop-i : goal.invariant-loop-i
invariant-loop-i l = record {
  left : WritingRows l.rows.bytes.now l.rows.columns l.initial.self.buffer.now l.initial.self.next l.self.buffer.now l.self.next l.i;
  same : l.self.buffer.ghost_name ≡ l.initial.self.buffer.ghost_name;
}
