use Rattle.std.proofs.Common.{rules}
use Rattle.growth.specs.Meaning.{growth_of}
use Rattle.growth.proofs.CheckReply.{check_refused, check_no, check_yes}
use Rattle.growth.proofs.check_growth.Goals as goal

pub returns-in_err-planes : goal.returns-in_err-planes
unfolding growth_of
returns-in_err-planes c = search (rules, check_refused)

pub returns-in-Some : goal.returns-in-Some
returns-in-Some c =
    check_no _ _ c.in_ok-planes.ensures c.in-Some.raise c.situation_at.ensures c.in-Some.ensures.inside c.in-Some.ensures.told

pub returns-in-None : goal.returns-in-None
returns-in-None c = search (rules, check_yes)
