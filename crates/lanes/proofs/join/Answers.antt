use lib.Bits.{bit_or}
use Rattle.std.proofs.Common.{rules}
use Rattle.answers.specs.Meaning.{join}
use Rattle.lanes.proofs.Operators.{join-pair}
use Rattle.lanes.proofs.Placing.{two_placed}
use Rattle.lanes.proofs.join.Goals as goal

pub returns : goal.returns
returns c = two_placed _ join bit_or _ join-pair (λ p q r f g h. search rules) c.two.ensures
