-- The six lowest bits of a situation's number are the lane's, the others the word's: which of them a step sets.
use Prim.Native.Nat.{ℕ, ◌+◌, ◌-◌, ◌*◌, ◌^◌, ◌≤◌, ◌<◌}
use mathlib.Core.Path.{◌≡◌, ap, ◌∙◌}
use lib.Bits.{bit_or, or_block, or_zero_r}
use lib.Pow.{pow-add}
use native.Mathlib.Nat.{pow-le-pow_right, zero-lt-suc, zero-add}
use native.Mathlib.Omega.{arith}

pub power_small : (k : ℕ) → k < 6 → 2 ^ k ≤ 32
power_small k l = pow-le-pow_right {n = 2} (zero-lt-suc 1) {i = k} {j = 5} (omega arith)

pub set-low : (k word x : ℕ) → k < 6 → x < 64 → bit_or (word * 64 + x) (2 ^ k) ≡ word * 64 + bit_or x (2 ^ k)
set-low k word x l m =
    let p : 2 ^ k < 64 = omega (arith, power_small k l) in
    rw (zero-add, or_zero_r) at (or_block 6 word 0 x (2 ^ k) m p)

pub set-high : (k word x : ℕ) → 6 ≤ k → x < 64 → bit_or (word * 64 + x) (2 ^ k) ≡ bit_or word (2 ^ (k - 6)) * 64 + x
set-high k word x l m =
    let e : k ≡ 6 + (k - 6) = omega arith in
    let p : 2 ^ k ≡ 2 ^ (k - 6) * 64 + 0 = ap (λ j. 2 ^ j) e ∙ pow-add 2 6 (k - 6) ∙ omega arith in
    rw (p, or_block 6 word (2 ^ (k - 6)) x 0 m (omega arith), or_zero_r)
