-- Weights are powers of 4.
use Prim.Native.Nat.{ℕ, zero, suc, ◌*◌, ◌^◌, ◌≤◌, ◌<◌}
use mathlib.Core.Path.{◌≡◌, refl}
use borrow.Author.Tests.{le-ltb}
use native.Mathlib.Nat.{pow-suc, pow-le-pow_right, zero-lt-suc}
use native.Mathlib.Omega.{arith}
use Rattle.situations.specs.Meaning.{weight}

pub weight_power : (e : ℕ) → e ≤ 6 → weight e ≡ 4 ^ e
weight_power e l = rw (le-ltb 6 e l)

pub power_small : (n : ℕ) → n ≤ 6 → 4 ^ n ≤ 4096
power_small n l = pow-le-pow_right {n = 4} (zero-lt-suc 3) {i = n} {j = 6} l

pub power_some : (n : ℕ) → 0 < 4 ^ n
power_some zero = omega arith
power_some (suc n) = omega (arith, pow-suc 4 n, power_some n)

-- a shift by two bits is one digit
pub power_shift : (e : ℕ) → 2 ^ (2 * e) ≡ 4 ^ e
power_shift zero = refl
power_shift (suc e) =
    let d : 2 * suc e ≡ suc (suc (2 * e)) = omega arith in
    rw (d, pow-suc 2 (suc (2 * e)), pow-suc 2 (2 * e), pow-suc 4 e, power_shift e) (omega arith)
