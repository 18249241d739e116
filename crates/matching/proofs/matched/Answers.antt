use Rattle.std.proofs.Common.{rules}
use native.Mathlib.Omega.{arith}
use Rattle.matching.proofs.Matches.{cells-few, cells-start, cells-end, part_wide, part_is}
use Rattle.matching.proofs.Matches.{rows_none, rows-found, rows_more, rows_all, rows_short}
use Rattle.matching.proofs.matched.Goals as goal

pub returns-then-situation-columns : goal.returns-then-situation-columns
returns-then-situation-columns c = search (rules, rows_short)

pub loop-i-init : goal.loop-i-init
loop-i-init c = rows_none _ _ _

pub overflow_add-start : goal.overflow_add-start
overflow_add-start c = omega (arith, cells-few _ _ _ _ c.count-i-end.ensures c.loop-i-test.true)

pub overflow_mul-start : goal.overflow_mul-start
overflow_mul-start c = omega (arith, cells-start _ _ _ _ c.count-i-end.ensures c.loop-i-test.true)

pub overflow_add-start-in-loop-i : goal.overflow_add-start-in-loop-i
overflow_add-start-in-loop-i c = omega (arith, cells-start _ _ _ _ c.count-i-end.ensures c.loop-i-test.true)

pub overflow_add-end : goal.overflow_add-end
overflow_add-end c = omega (arith, cells-end _ _ _ _ c.count-i-end.ensures c.loop-i-test.true)

pub slice_bounds-cells_match-end : goal.slice_bounds-cells_match-end
slice_bounds-cells_match-end c = search (rules, cells-end)

pub cells_match-requires : goal.cells_match-requires
cells_match-requires c = search (rules, part_wide)

pub returns-then-cells_match : goal.returns-then-cells_match
returns-then-cells_match c = search (rules, part_is, rows-found)

pub loop-i-preserved : goal.loop-i-preserved
loop-i-preserved c = search (rules, part_is, rows_more)

pub returns : goal.returns
returns c = search (rules, rows_all)
