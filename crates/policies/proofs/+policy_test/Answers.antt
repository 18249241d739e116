use Rattle.std.proofs.Common.{rules}
use Rattle.policies.proofs.Levels.{told-constant}
use Rattle.policies.proofs.+policy_test.Goals as goal

pub policy-returns-in-Constant : goal.policy-returns-in-Constant
policy-returns-in-Constant t c = search (rules, told-constant)
