-- A count that lies within the bytes counts bytes at their start.
use Prim.Native.Nat.{ℕ, ◌≤◌}
use mathlib.Core.Path.{◌≡◌, sym}
use mathlib.Core.List.{List}
use lib.ListN.{length}
use lib.Seq.{length-take-le}
use native.Mathlib.Omega.{arith}
use Rattle.input.specs.Counts.{IsPrefixLen}

pub counts_within : (n : ℕ) (old new : List ℕ) → length new ≡ length old → n ≤ length old → IsPrefixLen n new
counts_within n old new same h = let l : n ≤ length new = omega arith in (l, sym (length-take-le n new l))
