use Rattle.std.proofs.Common.{rules}
use Rattle.situations.proofs.Bytewise.{prefix_inside, prefix_long}
use Rattle.listing.proofs.Walk.{told_silent, told-counted, told-written}
use Rattle.listing.proofs.put_answer.Goals as goal

pub returns-then-eq : goal.returns-then-eq
returns-then-eq c = search (rules, told_silent)

pub returns-then-table-end : goal.returns-then-table-end
returns-then-table-end c = search (rules, told-counted)

pub slice_bounds-cells-end : goal.slice_bounds-cells-end
slice_bounds-cells-end c = search (rules, prefix_inside)

pub slice_bounds-put_bytes-end-2 : goal.slice_bounds-put_bytes-end-2
slice_bounds-put_bytes-end-2 c = search (rules, prefix_long)

pub returns : goal.returns
returns c =
    search (
      rules,
      told-written,
      c.put_bytes.ensures,
      c.put_bytes-last.ensures,
      c.put_bytes-first.ensures,
    )
