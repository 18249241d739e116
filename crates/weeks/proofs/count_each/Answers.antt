use Rattle.std.proofs.Common.{rules, refl}
use Rattle.batches.proofs.Walks.{walk-room}
use Rattle.weeks.proofs.Counting.{counting_ends, counting_refused, counting_within, counting_more}
use Rattle.weeks.proofs.count_each.Goals as goal

pub returns-in_err-check : goal.returns-in_err-check
returns-in_err-check c =
    counting_refused _ _ _ c.loop-at.invariant c.loop-at-test.true c.in_err-check.ensures _ _ refl (search rules)

pub slice_bounds-count_notice-end : goal.slice_bounds-count_notice-end
slice_bounds-count_notice-end c = search (rules, counting_within)

pub overflow_sub-left : goal.overflow_sub-left
overflow_sub-left c = walk-room _ _ _ c.in_ok-check.ensures refl

pub loop-at-preserved : goal.loop-at-preserved
loop-at-preserved c =
    counting_more _ _ _
    c.loop-at.invariant
    c.loop-at-test.true
    c.in_ok-check.ensures
    refl
    c.size.ensures
    c.count_notice.ensures

pub returns : goal.returns
returns c = counting_ends _ _ _ c.loop-at.invariant c.loop-at-test.false refl
