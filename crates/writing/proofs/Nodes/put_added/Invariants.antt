use mathlib.Core.Path.{◌≡◌}
use Rattle.rows.specs.Meaning.{rows_in}
use Rattle.writing.specs.Inside.{WritingOwn}
use Rattle.writing.proofs.Nodes.put_added.Given as goal

abbrev pub invariant-loop-w : goal.invariant-loop-w
invariant-loop-w l = record {
  left :
      WritingOwn l.default (rows_in l.rows.columns l.rows.bytes.now) l.rows.columns l.initial.self.buffer.now l.initial.self.next
      l.self.buffer.now
      l.self.next
      l.w;
  same : l.self.buffer.ghost_name ≡ l.initial.self.buffer.ghost_name;
}
