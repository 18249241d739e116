use Rattle.untable.proofs.Listed.{listed-written}
use Rattle.untable.proofs.untable.Goals as goal

pub returns-clause-written : goal.returns-clause-written
returns-clause-written c = listed-written _ _ _ c.in_ok-planes.ensures _ _ c.list.ensures.written
