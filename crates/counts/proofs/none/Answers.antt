use mathlib.Core.Path.{refl}
use Rattle.counts.specs.Meaning.{numbers_from, count}
use Rattle.counts.proofs.none.Goals as goal

pub returns : goal.returns
unfolding numbers_from count
returns c = refl
