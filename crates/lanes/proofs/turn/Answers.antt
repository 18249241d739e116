use lib.Bits.{bit_xor}
use Rattle.words.specs.Meaning.{ones}
use Rattle.std.proofs.Common.{rules}
use Rattle.answers.specs.Meaning.{turn}
use Rattle.lanes.proofs.Operators.{turn-pair}
use Rattle.lanes.proofs.Placing.{one_placed}
use Rattle.lanes.proofs.turn.Goals as goal

pub returns : goal.returns
returns c = one_placed _ turn (λ p q. bit_xor p ones) (λ p q. bit_xor q p) _ turn-pair (λ p q r f g h. (search rules, search rules)) c.one.ensures
