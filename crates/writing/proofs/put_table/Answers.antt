use Rattle.std.proofs.Common.{rules}
use Rattle.writing.proofs.Tables.{few-short, table_counted, table_written}
use Rattle.writing.proofs.put_table.Goals as goal

pub count_rows-needed-requires : goal.count_rows-needed-requires
count_rows-needed-requires c = search (rules, few-short)

pub returns-then-nodes-needed : goal.returns-then-nodes-needed
returns-then-nodes-needed c = search (rules, table_counted)

pub put_nodes-requires : goal.put_nodes-requires
put_nodes-requires c = search (rules, few-short)

pub returns : goal.returns
returns c = search (rules, table_written)
