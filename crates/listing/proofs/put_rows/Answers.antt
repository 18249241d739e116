use Rattle.std.proofs.Common.{rules}
use native.Mathlib.Omega.{arith}
use Rattle.listing.proofs.Walk.{listing_start, listing_within, listing_more, listing_done, walk-small}
use Rattle.listing.proofs.put_rows.Goals as goal

pub loop-w-init : goal.loop-w-init
loop-w-init c = search (rules, listing_start)

pub rest-low-requires : goal.rest-low-requires
rest-low-requires c = search (rules, walk-small)

pub rest-high-requires : goal.rest-high-requires
rest-high-requires c = search (rules, walk-small)

pub put_answer-next-requires : goal.put_answer-next-requires
put_answer-next-requires c =
    listing_within _ _ _ c.loop-w.invariant c.weight-total.ensures c.loop-w-test.true c.requires

pub overflow_add-w : goal.overflow_add-w
overflow_add-w c =
    let small = walk-small c.args.n _ c.weight-total.ensures c.loop-w-test.true in
    omega (arith, small, c.ahead-w.ensures.2)

pub loop-w-preserved : goal.loop-w-preserved
loop-w-preserved c = search (rules, listing_more)

pub returns : goal.returns
returns c = search (rules, listing_done)
