use Rattle.seeking.proofs.WordSteps.{kept_at}
use Rattle.seeking.proofs.sifting.loses.Goals as goal

pub returns : goal.returns
returns c = kept_at _ _ _ _ c.losing.ensures c.losing-2.ensures
