use Rattle.weekcount.proofs.windows.count_batch.Given as goal

abbrev pub decreases-loop-count : goal.decreases-loop-count
decreases-loop-count l = l.left
