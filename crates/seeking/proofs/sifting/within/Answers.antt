use Rattle.std.proofs.Common.{rules}
use Rattle.seeking.proofs.WordSteps.{apart_fits, clear_is, within-lost}
use Rattle.seeking.proofs.sifting.within.Goals as goal

pub overflow_shr-after : goal.overflow_shr-after
overflow_shr-after c = search (rules, apart_fits)

pub returns : goal.returns
returns c = within-lost _ _ c.requires (clear_is c.args.k c.requires)
