use Rattle.judging.proofs.Texts.{text_refused, text_accepted}
use Rattle.judging.proofs.put_table.Goals as goal

pub returns-in-Ok : goal.returns-in-Ok
returns-in-Ok c = text_accepted _ _ _ c.in-Ok.ensures.0 c.in-Ok.ensures.1 c.put_counts.ensures c.put_growth.ensures

pub returns-in-Err : goal.returns-in-Err
returns-in-Err c = text_refused _ _ c.in-Err.ensures c.refusal.ensures
