use Rattle.std.proofs.Common.{rules}
use Rattle.base4.proofs.Spellings.{spelling_none, spelling_more, spelling_all}
use Rattle.base4.proofs.situation_at.Goals as goal

pub loop-i-init : goal.loop-i-init
loop-i-init c = spelling_none _

pub loop-i-preserved : goal.loop-i-preserved
loop-i-preserved c = search (rules, spelling_more)

pub returns : goal.returns
returns c = search (rules, spelling_all)
