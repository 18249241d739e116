use Rattle.std.proofs.Common.{rules}
use Rattle.planes.proofs.Acting.{act-constant, act-column, act-negate, act-turn, act-meet, act-join, act_foreign}
use Rattle.planes.proofs.Pass.act.Goals as goal

pub returns-in-Turn : goal.returns-in-Turn
returns-in-Turn c = search (rules, act-turn)

pub returns-in-Column : goal.returns-in-Column
returns-in-Column c = search (rules, act-column)

pub returns-in-Meet : goal.returns-in-Meet
returns-in-Meet c = search (rules, act-meet)

pub returns-in-Join : goal.returns-in-Join
returns-in-Join c = search (rules, act-join)

pub returns-in-Negate : goal.returns-in-Negate
returns-in-Negate c = search (rules, act-negate)

pub returns-in-Constant : goal.returns-in-Constant
returns-in-Constant c = search (rules, act-constant)

pub returns-in-Foreign : goal.returns-in-Foreign
returns-in-Foreign c = search (rules, act_foreign)
