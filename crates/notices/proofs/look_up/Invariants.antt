use Rattle.std.proofs.Common.{◌≡◌, map, drop}
use Rattle.notices.specs.Meaning.{first_fact, seen, facts_in}
use Rattle.notices.proofs.look_up.Given as goal

abbrev pub invariant-loop-high : goal.invariant-loop-high
invariant-loop-high l = seen (map first_fact (drop l.high-index l.high-items)) l.fact ≡ seen (facts_in 32 l.notice) l.fact
