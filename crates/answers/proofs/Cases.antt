-- Floor and ceiling settle what is open; implication and guard ask what the first operand claims.
use mathlib.Core.Path.{◌≡◌}
use Rattle.answers.specs.declared.Answer.{Answer}
use Rattle.answers.specs.declared.Answer.TheVariants.{Silent, Bury, Keep, Clash}
use Rattle.answers.specs.Meaning.{floor, ceiling, implication, guard}
use Rattle.answers.specs.Inside.{settled, provided}

pub settled_floor : (p : Answer) {r : Answer} → r ≡ settled Bury p → r ≡ floor p
settled_floor Silent e = e
settled_floor Bury e = e
settled_floor Keep e = e
settled_floor Clash e = e

pub settled_ceiling : (p : Answer) {r : Answer} → r ≡ settled Keep p → r ≡ ceiling p
settled_ceiling Silent e = e
settled_ceiling Bury e = e
settled_ceiling Keep e = e
settled_ceiling Clash e = e

pub provided_implication : (p q : Answer) {r : Answer} → r ≡ provided p q Keep → r ≡ implication p q
provided_implication Silent q e = e
provided_implication Bury q e = e
provided_implication Keep q e = e
provided_implication Clash q e = e

pub provided_guard : (p q : Answer) {r : Answer} → r ≡ provided p q Silent → r ≡ guard p q
provided_guard Silent q e = e
provided_guard Bury q e = e
provided_guard Keep q e = e
provided_guard Clash q e = e

pub ruleset case_laws = (settled_floor, settled_ceiling, provided_implication, provided_guard)
