use Rattle.std.proofs.Common.{rules}
use Rattle.input.proofs.Moves.{moved}
use Rattle.input.proofs.move_front.Goals as goal

pub returns : goal.returns
returns c = search (rules, moved)
