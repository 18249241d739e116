use Rattle.std.proofs.Common.{rules}
use Rattle.rows.proofs.FirstPair.{disagree_at-is, pairs_start, below-start, below_more, pairs_hit, pairs-more}
use Rattle.rows.proofs.Rows.check_overlap.Goals as goal

pub pairs-init : goal.pairs-init
pairs-init c = search (rules, pairs_start)

pub loop-earlier-init : goal.loop-earlier-init
loop-earlier-init c = search (rules, below-start)

pub loop-earlier-preserved : goal.loop-earlier-preserved
loop-earlier-preserved c = search (rules, below_more, disagree_at-is)

pub pairs-preserved : goal.pairs-preserved
pairs-preserved c = search (rules, pairs-more)

pub returns-then-rows_disagree : goal.returns-then-rows_disagree
returns-then-rows_disagree c = search (rules, pairs_hit, disagree_at-is)
