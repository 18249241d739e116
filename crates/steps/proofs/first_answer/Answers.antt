use Rattle.std.proofs.Common.{rules}
use Rattle.steps.proofs.FirstAnswer.{times_fits}
use Rattle.steps.proofs.first_answer.Goals as goal

pub overflow_mul-two : goal.overflow_mul-two
overflow_mul-two c = search (rules, times_fits)
