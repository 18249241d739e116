use Rattle.std.proofs.Common.{rules}
use Rattle.nodes.specs.Meaning.{evaluate_of}
use Rattle.evaluator.proofs.Evaluation.{evaluate-refused}
use Rattle.evaluator.proofs.evaluate.Goals as goal

pub returns-in_err-check : goal.returns-in_err-check
unfolding evaluate_of
returns-in_err-check c = search (rules, evaluate-refused)
