-- A number with one bit set, which is what a step reaches; where the bit was set already, it is the number itself.
use Prim.Native.Nat.{ℕ, ◌+◌, ◌-◌, ◌*◌, ◌^◌}
use mathlib.Core.Path.{◌≡◌}
use lib.Bits.{bit_and, bit_or, or_add_and, and_high}
use lib.Pow.{pow-add}
use native.Mathlib.Omega.{arith}
use Rattle.words.specs.Meaning.{bit}

set-bit : (k w : ℕ) → bit_or w (2 ^ k) + bit k w * 2 ^ k ≡ w + 2 ^ k
set-bit k w =
    let p : 2 ^ (1 + k) ≡ 2 * 2 ^ k = pow-add 2 1 k in
    let q : 2 ^ (1 + k) - 2 ^ k ≡ 2 ^ k = omega arith in
    let a : bit_and w (2 ^ k) ≡ bit k w * 2 ^ k = rw q at (and_high w 1 k) in
    rw (← a) (or_add_and w (2 ^ k))

module _ (k w : ℕ) where
  pub set-clear : bit k w ≡ 0 → bit_or w (2 ^ k) ≡ w + 2 ^ k
  set-clear e = let s : bit_or w (2 ^ k) + 0 * 2 ^ k ≡ w + 2 ^ k = rw e at (set-bit k w) in omega arith

  pub set_stays : bit k w ≡ 1 → bit_or w (2 ^ k) ≡ w
  set_stays e = let s : bit_or w (2 ^ k) + 1 * 2 ^ k ≡ w + 2 ^ k = rw e at (set-bit k w) in omega arith
