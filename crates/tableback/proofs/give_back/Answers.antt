use Rattle.tableback.proofs.Given.{given_inside, given_long}
use Rattle.tableback.proofs.give_back.Goals as goal

pub slice_bounds-table-end : goal.slice_bounds-table-end
slice_bounds-table-end c = given_inside _ _ _ c.in-Ok.ensures.reply _ c.untable.auto.table

pub slice_bounds-write_all-end : goal.slice_bounds-write_all-end
slice_bounds-write_all-end c = given_long _ _ _ c.in-Ok.ensures.reply _ c.untable.auto.table
