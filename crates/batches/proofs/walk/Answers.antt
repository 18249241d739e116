use Rattle.std.proofs.Common.{refl}
use Rattle.refusals.proofs.Checks.{refusal_counts}
use Rattle.batches.proofs.Walks.{walk_ends, walk_stops, walk-room, walk_more}
use Rattle.batches.proofs.walk.Goals as goal

pub returns-in-Err : goal.returns-in-Err
returns-in-Err c =
    walk_stops _ _ _
    c.loop-rest.invariant
    c.due.ensures
    c.loop-rest-test.true
    c.in-Err.ensures
    (refusal_counts c.in-Err.refusal)

pub overflow_sub-left : goal.overflow_sub-left
overflow_sub-left c = walk-room _ _ _ c.in_default.ensures refl

pub loop-rest-preserved : goal.loop-rest-preserved
loop-rest-preserved c =
    walk_more _ _ _
    c.loop-rest.invariant
    c.due.ensures
    c.loop-rest-test.true
    c.in_default.ensures
    refl
    c.size.ensures

pub returns : goal.returns
returns c = walk_ends _ _ _ c.loop-rest.invariant c.due.ensures c.loop-rest-test.false refl
