-- What code says of a week is told apart by what is said of it: no two give the same.
use mathlib.Core.Path.{◌≡◌, refl, ap}
use Rattle.batches.proofs.Apart.{why-apart}
use Rattle.weeks.specs.declared.Week as code
use Rattle.weeks.specs.Meaning.{Week, counted}

pub counted-apart : (v w : code.Week) → counted v ≡ counted w → v ≡ w
counted-apart v w e =
    let refused : v.refused ≡ w.refused = why-apart v.refused w.refused (ap (λ (x : Week). x.refusal) e) in
    let counts : v.counts ≡ w.counts = ap (λ (x : Week). x.counts) e in
    rw (refused, counts) refl
