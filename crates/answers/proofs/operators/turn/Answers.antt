use native.Mathlib.Omega.{arith}
use Rattle.answers.proofs.Claims.{turn-number, number_small}
use Rattle.std.proofs.Common.{rules}
use Rattle.answers.proofs.operators.turn.Goals as goal

pub overflow_add-from : goal.overflow_add-from
overflow_add-from c = omega (arith, c.from.ensures, number_small c.args.p)

pub returns : goal.returns
returns c = search (rules, turn-number)
