use Rattle.std.proofs.Common.{rules}
use Rattle.weekcount.proofs.Turns.{walked_inside, walked_part, walked_less}
use Rattle.weekcount.proofs.windows.count_batch.Goals as goal

pub slice_bounds-window-end-in-loop-count : goal.slice_bounds-window-end-in-loop-count
slice_bounds-window-end-in-loop-count c = search (rules, walked_inside)

pub slice_bounds-count_voices-end : goal.slice_bounds-count_voices-end
slice_bounds-count_voices-end c = search (rules, walked_part)

pub loop-count-smaller : goal.loop-count-smaller
loop-count-smaller c = search (rules, walked_less)
