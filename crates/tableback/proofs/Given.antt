-- A table that is given back lies within the buffer that was lent.
use Prim.Native.Nat.{ℕ, ◌≤◌}
use mathlib.Core.Path.{◌≡◌, sym, ap}
use mathlib.Core.List.{List}
use lib.ListN.{length, take}
use lib.Seq.{length-take-le}
use Rattle.listing.specs.Meaning.{Written, give_written}
use Rattle.untable.specs.Meaning.{untable_of}
use Rattle.recovering.proofs.Replies.{given_exactly, untable-given}

module _ (nodes : List ℕ) (n lent : ℕ) {k : ℕ} (e : give_written k ≡ untable_of nodes n lent) where
  given_fits : k ≤ lent
  given_fits =
      let none : (untable_of nodes n lent).refusal.number ≡ 0 = ap (λ (w : Written). w.refusal.number) (sym e) in
      let g = (given_exactly nodes n lent).0 none in
      let same : k ≡ (untable_of nodes n lent).length = ap (λ (w : Written). w.length) e in
      rw (same, untable-given nodes n lent g.0 g.1 g.2) g.2

  pub given_inside : (table : List ℕ) → length table ≡ lent → k ≤ length table
  given_inside table l = rw l given_fits

  pub given_long : (table : List ℕ) → length table ≡ lent → k ≡ length (take k table)
  given_long table l = sym (length-take-le k table (given_inside table l))
