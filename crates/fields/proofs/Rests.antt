-- A part that goes on to the end is what is left of the bytes.
use Prim.Native.Nat.{ℕ, ◌-◌}
use mathlib.Core.Path.{◌≡◌}
use mathlib.Core.List.{List}
use native.Mathlib.Omega.{arith}
use lib.ListN.{length, take, drop, length-drop}
use lib.Seq.{take_all}

pub rest-is : (at : ℕ) (s : List ℕ) → take (length s - at) (drop at s) ≡ drop at s
rest-is at s = take_all (length s - at) (drop at s) (simp length-drop (omega arith))
