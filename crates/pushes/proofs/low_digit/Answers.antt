use Rattle.pushes.proofs.Masks.{low_digit_is}
use Rattle.pushes.proofs.low_digit.Goals as goal

pub returns : goal.returns
returns c = low_digit_is c.args.e c.args.turns c.requires
