use Rattle.std.proofs.Common.{rules, refl}
use Rattle.compiler.proofs.CompileReturns.{compile-unread, unread_writes_nothing, compile-room, compile_accepts, read_written}
use Rattle.compiler.proofs.compile.Goals as goal

pub returns-in_err-read : goal.returns-in_err-read
returns-in_err-read c = search (rules, compile-unread, unread_writes_nothing)

pub returns-then-nodes-needed : goal.returns-then-nodes-needed
returns-then-nodes-needed c =
    let read = c.in_ok-read.ensures in
    let rows = c.rows_of.ensures in
    record {
      reply = compile-room _ read refl rows c.default_of-default.ensures _ c.put_table-needed.ensures c.if-nodes-needed.true _ c.at.ensures;
      written = read_written _ read refl rows c.default_of-default.ensures _ c.put_table-needed.ensures;
    }

pub returns : goal.returns
returns c =
    let read = c.in_ok-read.ensures in
    let rows = c.rows_of.ensures in
    record {
      reply = compile_accepts _ read refl rows c.default_of-default.ensures _ c.put_table-needed.ensures c.if-nodes-needed.false;
      written = read_written _ read refl rows c.default_of-default.ensures _ c.put_table-needed.ensures;
    }
