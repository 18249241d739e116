use Rattle.std.proofs.Common.{rules}
use Rattle.answers.specs.Meaning.{negate}
use Rattle.lanes.proofs.Operators.{negate-pair}
use Rattle.lanes.proofs.Placing.{one_placed}
use Rattle.lanes.proofs.negate.Goals as goal

pub returns : goal.returns
returns c = one_placed _ negate (λ p q. q) (λ p q. p) _ negate-pair (λ p q r f g h. (search rules, search rules)) c.one.ensures
