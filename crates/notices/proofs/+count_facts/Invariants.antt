use Rattle.std.proofs.Common.{◌-◌}
use Rattle.notices.proofs.+count_facts.Given as goal

abbrev pub decreases-count_facts : goal.decreases-count_facts
decreases-count_facts l = 32 - l.facts
