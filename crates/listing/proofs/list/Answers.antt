use Rattle.std.proofs.Common.{rules}
use native.Mathlib.Omega.{arith}
use Rattle.listing.proofs.Returns.{list-under, list_over, list_nothing, needed_short}
use Rattle.listing.proofs.Returns.{list-fits, list_given, list_written, list_refused-replies, list-refused}
use Rattle.listing.proofs.list.Goals as goal

pub returns-then-columns-lt1 : goal.returns-then-columns-lt1
returns-then-columns-lt1 c = search (rules, list-under, list_nothing)

pub returns-then-columns-gt-MOST_COLUMNS : goal.returns-then-columns-gt-MOST_COLUMNS
returns-then-columns-gt-MOST_COLUMNS c = search (rules, list_over, list_nothing)

pub overflow_mul-needed : goal.overflow_mul-needed
overflow_mul-needed c = omega (arith, needed_short _ _ c.if-columns-gt-MOST_COLUMNS.false c.count_rows-rows.ensures)

pub overflow_add-needed-2 : goal.overflow_add-needed-2
overflow_add-needed-2 c = omega (arith, needed_short _ _ c.if-columns-gt-MOST_COLUMNS.false c.count_rows-rows.ensures)

pub put_table-requires : goal.put_table-requires
put_table-requires c = (
  c.if-columns-gt-MOST_COLUMNS.false,
  list-fits _ _ c.if-columns-lt1.false c.if-columns-gt-MOST_COLUMNS.false _ c.count_rows-rows.ensures c.in_ok-length.ensures,
)

pub returns-in_err-length : goal.returns-in_err-length
returns-in_err-length c = search (rules, list_refused-replies, list-refused)

pub returns : goal.returns
returns c =
    record {
      reply = list_given _ _ c.if-columns-lt1.false c.if-columns-gt-MOST_COLUMNS.false _ c.count_rows-rows.ensures c.in_ok-length.ensures;
      written = list_written _ _ c.if-columns-lt1.false c.if-columns-gt-MOST_COLUMNS.false _ c.count_rows-rows.ensures c.in_ok-length.ensures _ c.put_table.ensures;
    }
