use Rattle.std.proofs.Common.{rules}
use Prim.Native.Nat.{◌<◌}
use native.Mathlib.Omega.{arith}
use Rattle.writing.proofs.Rows.{behind-selector, cell_all}
use Rattle.writing.proofs.Nodes.put_cell.Goals as goal

pub put_operator-requires : goal.put_operator-requires
put_operator-requires g c = search (rules, behind-selector)

pub returns : goal.returns
returns g c = let small : c.args.cell < 4 = grind arith in search (rules, cell_all)
