use Rattle.refusals.specs.Meaning.{checked}
use Rattle.rows.specs.Meaning.{disagree_at}
use Rattle.rows.specs.Inside.{Below, Pairs}
use Rattle.rows.proofs.Rows.check_overlap.Given as goal

abbrev pub invariant-loop-earlier : goal.invariant-loop-earlier
invariant-loop-earlier l = Below (disagree_at l.self.columns l.self.bytes.now) l.later (checked l.found) l.earlier

abbrev pub invariant-pairs : goal.invariant-pairs
invariant-pairs l = Pairs (disagree_at l.self.columns l.self.bytes.now) l.later-end (checked l.found) l.later
