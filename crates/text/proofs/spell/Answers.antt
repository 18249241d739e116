use Rattle.std.proofs.Common.{rules}
use Rattle.text.proofs.Decimals.{spelling_start, spelling_more, spelling_end, spelling_full}
use Rattle.text.proofs.spell.Goals as goal

pub loop-at-init : goal.loop-at-init
loop-at-init c = search (rules, spelling_start)

pub returns-then-rest-eq0 : goal.returns-then-rest-eq0
returns-then-rest-eq0 c = search (rules, spelling_end)

pub loop-at-preserved : goal.loop-at-preserved
loop-at-preserved c = search (rules, spelling_more)

pub returns : goal.returns
returns c = search (rules, spelling_full)
