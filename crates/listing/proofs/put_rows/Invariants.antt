use Prim.Native.Nat.{◌-◌}
use Rattle.steps.specs.Meaning.{in_words}
use Rattle.listing.specs.Inside.{Listing}
use Rattle.listing.proofs.put_rows.Given as goal

abbrev pub invariant-loop-w : goal.invariant-loop-w
invariant-loop-w l = Listing (in_words l.planes.bury l.planes.keep) l.n l.initial.table l.at l.table l.next l.w

abbrev pub decreases-loop-w : goal.decreases-loop-w
decreases-loop-w l = l.total - l.w
