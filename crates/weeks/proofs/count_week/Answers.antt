use mathlib.Core.Path.{◌∙◌}
use Rattle.weeks.proofs.Counting.{onto-none}
use Rattle.weeks.proofs.count_week.Goals as goal

pub returns : goal.returns
returns c = c.count_onto.ensures ∙ rw c.none.ensures (onto-none _ _)
