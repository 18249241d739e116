use mathlib.Core.Path.{◌∙◌}
use Rattle.counts.proofs.Tallies.{answer_counted, refusal_counted}
use Rattle.counts.proofs.count_notice.Goals as goal

pub returns-in-Ok : goal.returns-in-Ok
returns-in-Ok c = c.answered.ensures ∙ answer_counted _ _ _ c.in-Ok.ensures

pub returns-in-Err : goal.returns-in-Err
returns-in-Err c = c.refused.ensures ∙ refusal_counted _ _ _ c.in-Err.ensures
