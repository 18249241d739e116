use Rattle.std.proofs.Common.{rules}
use native.Mathlib.Omega.{arith}
use Rattle.rows.proofs.RowBytes.{row_count-columns, row_count-end, row_bytes_part}
use Rattle.rows.proofs.Rows.inside.Goals as goal

pub overflow_add-width : goal.overflow_add-width
overflow_add-width c = omega (arith, row_count-columns _ _ _ c.requires)

pub overflow_mul-start : goal.overflow_mul-start
overflow_mul-start c = omega (arith, row_count-end _ _ _ c.requires)

pub overflow_add-end : goal.overflow_add-end
overflow_add-end c = omega (arith, row_count-end _ _ _ c.requires)

pub slice_bounds-result-end : goal.slice_bounds-result-end
slice_bounds-result-end c = search (rules, row_count-end)

pub returns : goal.returns
returns c = search (rules, row_bytes_part)
