use Rattle.pushes.proofs.Masks.{digit_is}
use Rattle.pushes.proofs.digit.Goals as goal

pub returns : goal.returns
returns c = digit_is c.args.d
