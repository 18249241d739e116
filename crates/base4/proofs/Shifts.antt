-- The ways out of `weight` and `digit`: a shift by two bits is one digit. The largest weight.
use Prim.Native.Nat.{ℕ, ◌*◌, ◌/◌, ◌%◌, ◌^◌, ◌≤◌, ◌<◌}
use mathlib.Core.Path.{◌≡◌, refl, ap, sym}
use mathlib.Core.Bool.{Bool, true, false, cond}
use lib.Dec.{ltb}
use borrow.Author.Tests.{lt-ltb, ltb-false}
use native.Mathlib.Nat.{pow-le-pow_right, zero-lt-suc, div-eq_of_lt, lt_of_lt_of_le}
use native.Mathlib.Omega.{arith}
use Rattle.situations.specs.Meaning.{weight, digit}
use Rattle.situations.proofs.Weights.{weight_power, power_small, power_shift}

pub weight_large : (e : ℕ) → 6 < e → 0 ≡ weight e
weight_large e l = rw (lt-ltb 6 e l)

pub weight-small : (e : ℕ) → weight e ≤ 4096
weight-small e = go (ltb 6 e) refl
  where
    go : (b : Bool) → ltb 6 e ≡ b → cond b 0 (4 ^ e) ≤ 4096
    go true h = omega arith
    go false h = power_small e (ltb-false 6 e h)

-- where there is a situation, there are at most six columns
pub weight-columns : (n w : ℕ) → w < weight n → n ≤ 6
weight-columns n w = go (ltb 6 n) refl
  where
    go : (b : Bool) → ltb 6 n ≡ b → w < cond b 0 (4 ^ n) → n ≤ 6
    go true e l = absurd (omega arith)
    go false e l = ltb-false 6 n e

pub weight_shift : (e : ℕ) → e ≤ 6 → 1 * 2 ^ (2 * e) % 18446744073709551616 ≡ weight e
weight_shift e l = rw (weight_power e l, power_shift e) (omega (arith, power_small e l))

pub digit_large : (w e : ℕ) → w < 18446744073709551616 → 31 < e → 0 ≡ digit w e
digit_large w e l h =
    ap (λ q. q % 4) (sym (div-eq_of_lt {n = w} {m = 4 ^ e} (lt_of_lt_of_le l (pow-le-pow_right {n = 4} (zero-lt-suc 3) {i = 32} {j = e} h))))

pub digit_shift : (w e : ℕ) → w / 2 ^ (2 * e) % 4 ≡ digit w e
digit_shift w e = rw (power_shift e)
