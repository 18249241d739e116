use Rattle.policies.proofs.+policy_test.Given as goal

abbrev pub decreases-policy : goal.decreases-policy
decreases-policy l = l.left

abbrev pub decreases-test : goal.decreases-test
decreases-test l = l.left
