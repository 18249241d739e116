-- How many words and which of their lanes are the situations of 1 to 6 columns.
use Prim.Native.Nat.{ℕ, zero, suc, ◌+◌, ◌-◌, ◌*◌, ◌%◌, ◌^◌, ◌≤◌, ◌<◌, min}
use mathlib.Core.Path.{◌≡◌, refl, ◌∙◌}
use mathlib.Core.Bool.{true, cond}
use lib.Dec.{ltb, eqb}
use borrow.Author.Tests.{eqb-true, lt-ltb}
use native.Mathlib.Omega.{arith}
use Rattle.std.specs.Int.{div_ceil}
use Rattle.words.specs.Meaning.{bit, ones}
use Rattle.words.proofs.Bits.{all_below, tested, bit-ones}
use Rattle.planes.specs.Inside.{Within}

-- all lanes of all words
all_lanes : (n total : ℕ) → total * 64 ≤ 4 ^ n → (k x : ℕ) → k < total → x < 64 → bit x ones ≡ cond (ltb (k * 64 + x) (4 ^ n)) 1 0
all_lanes n total h k x l m = bit-ones x m ∙ (rw (lt-ltb (k * 64 + x) (4 ^ n) (omega (arith, h, l, m))))

-- some lanes of one word, by a test of each
some_lanes :
    (n lanes : ℕ) →
    all_below 64 (λ x. eqb (bit x lanes) (cond (ltb (0 * 64 + x) (4 ^ n)) 1 0)) ≡ true →
    (k x : ℕ) →
    k < 1 →
    x < 64 →
    bit x lanes ≡ cond (ltb (k * 64 + x) (4 ^ n)) 1 0
some_lanes n lanes h zero x l m =
    eqb-true (bit x lanes) (cond (ltb (0 * 64 + x) (4 ^ n)) 1 0)
    (tested (λ x. eqb (bit x lanes) (cond (ltb (0 * 64 + x) (4 ^ n)) 1 0)) 64 h x m)
some_lanes n lanes h (suc k) x l m = absurd (omega arith)

few : (n lanes : ℕ) → lanes < 18446744073709551616 → 4 ^ n ≤ 64 →
    ((k x : ℕ) → k < 1 → x < 64 → bit x lanes ≡ cond (ltb (k * 64 + x) (4 ^ n)) 1 0) →
    Within n (record { passes = 1; count = 1; lanes = lanes })
few n lanes small beyond inside =
    record {
      some = omega arith;
      few = omega arith;
      most = omega arith;
      whole = λ l. absurd (omega (arith, l));
      lanes = inside;
      small = small;
      beyond = beyond;
    }

many : (n passes count : ℕ) → 0 < passes → passes ≤ 4 → count ≤ 16 → (1 < passes → count ≡ 16) → 4 ^ n ≡ ((passes - 1) * 16 + count) * 64 →
    Within n (record { passes = passes; count = count; lanes = ones })
many n passes count a b c d e =
    record {
      some = a;
      few = b;
      most = c;
      whole = d;
      lanes = all_lanes n ((passes - 1) * 16 + count) (omega (arith, e));
      small = omega arith;
      beyond = omega (arith, e);
    }

module _ {passes words count : ℕ} where
  pub extent_few :
      (n : ℕ) → 1 ≤ n → n ≤ 6 →
      words ≡ div_ceil (1 * 2 ^ (2 * n) % 18446744073709551616) 64 →
      passes ≡ div_ceil words 16 →
      count ≡ min words 16 →
      1 * 2 ^ (2 * n) % 18446744073709551616 < 64 →
      Within n (record { passes = passes; count = count; lanes = 1 * 2 ^ (1 * 2 ^ (2 * n) % 18446744073709551616) % 18446744073709551616 - 1 })
  unfolding all_below
  extent_few zero l m w p c s = absurd (omega arith)
  extent_few (suc zero) l m w p c s = rw (c, p, w) (few 1 15 (omega arith) (omega arith) (some_lanes 1 15 refl))
  extent_few (suc (suc zero)) l m w p c s = rw (c, p, w) (few 2 65535 (omega arith) (omega arith) (some_lanes 2 65535 refl))
  extent_few (suc (suc (suc zero))) l m w p c s = absurd (omega (arith, s))
  extent_few (suc (suc (suc (suc zero)))) l m w p c s = absurd (omega (arith, s))
  extent_few (suc (suc (suc (suc (suc zero))))) l m w p c s = absurd (omega (arith, s))
  extent_few (suc (suc (suc (suc (suc (suc zero)))))) l m w p c s = absurd (omega (arith, s))
  extent_few (suc (suc (suc (suc (suc (suc (suc n))))))) l m w p c s = absurd (omega arith)

  pub extent_many :
      (n : ℕ) → 1 ≤ n → n ≤ 6 →
      words ≡ div_ceil (1 * 2 ^ (2 * n) % 18446744073709551616) 64 →
      passes ≡ div_ceil words 16 →
      count ≡ min words 16 →
      64 ≤ 1 * 2 ^ (2 * n) % 18446744073709551616 →
      Within n (record { passes = passes; count = count; lanes = 18446744073709551615 })
  extent_many zero l m w p c s = absurd (omega arith)
  extent_many (suc zero) l m w p c s = absurd (omega (arith, s))
  extent_many (suc (suc zero)) l m w p c s = absurd (omega (arith, s))
  extent_many (suc (suc (suc zero))) l m w p c s = rw (c, p, w) (many 3 1 1 (omega arith) (omega arith) (omega arith) (λ h. absurd (omega (arith, h))) refl)
  extent_many (suc (suc (suc (suc zero)))) l m w p c s = rw (c, p, w) (many 4 1 4 (omega arith) (omega arith) (omega arith) (λ h. absurd (omega (arith, h))) refl)
  extent_many (suc (suc (suc (suc (suc zero))))) l m w p c s = rw (c, p, w) (many 5 1 16 (omega arith) (omega arith) (omega arith) (λ h. refl) refl)
  extent_many (suc (suc (suc (suc (suc (suc zero)))))) l m w p c s = rw (c, p, w) (many 6 4 16 (omega arith) (omega arith) (omega arith) (λ h. refl) refl)
  extent_many (suc (suc (suc (suc (suc (suc (suc n))))))) l m w p c s = absurd (omega arith)
