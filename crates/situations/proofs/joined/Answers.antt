use Rattle.std.proofs.Common.{rules}
use Rattle.situations.proofs.Bytewise.{joining_none, joining_more, joining_all}
use Rattle.situations.proofs.joined.Goals as goal

pub loop-i-init : goal.loop-i-init
loop-i-init c = joining_none _ _ _

pub loop-i-preserved : goal.loop-i-preserved
loop-i-preserved c = search (rules, joining_more)

pub returns : goal.returns
returns c = search (rules, joining_all)
