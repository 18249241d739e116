use lib.Bits.{bit_and}
use Rattle.std.proofs.Common.{rules}
use Rattle.answers.specs.Meaning.{meet}
use Rattle.lanes.proofs.Operators.{meet-pair}
use Rattle.lanes.proofs.Placing.{two_placed}
use Rattle.lanes.proofs.meet.Goals as goal

pub returns : goal.returns
returns c = two_placed _ meet bit_and _ meet-pair (λ p q r f g h. search rules) c.two.ensures
