use Rattle.std.proofs.Common.{rules}
use Rattle.base4.proofs.Indexes.{indexing_none, indexing_times, indexing_sum, indexing_more, indexing_all}
use Rattle.base4.proofs.index.Goals as goal

pub loop-i-init : goal.loop-i-init
loop-i-init c = indexing_none _

pub overflow_mul-w : goal.overflow_mul-w
overflow_mul-w c = search (rules, indexing_times)

pub overflow_add-w : goal.overflow_add-w
overflow_add-w c = search (rules, indexing_sum)

pub loop-i-preserved : goal.loop-i-preserved
loop-i-preserved c = search (rules, indexing_more)

pub returns : goal.returns
returns c = search (rules, indexing_all)
