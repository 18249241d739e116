-- A word is put together from its bits (packed_bits), and a word that is put together has these bits (bit-packed).
use Prim.Native.Nat.{ℕ, zero, suc, ◌+◌, ◌*◌, ◌/◌, ◌%◌, ◌^◌, ◌<◌}
use mathlib.Core.Path.{◌≡◌, refl, ap, sym, ◌∙◌}
use lib.ListN.{length, get_or}
use native.Mathlib.Nat.{pow-suc, mul_comm, div-div-eq-div-mul, add-zero}
use native.Mathlib.Omega.{arith}
use Rattle.words.specs.Meaning.{bit, packed, words_from}

-- a bit of the half is the next bit
bit_half : (x w : ℕ) → bit (suc x) w ≡ bit x (w / 2)
bit_half x w = ap (λ q. q % 2) (sym (div-div-eq-div-mul w 2 (2 ^ x) ∙ (rw (pow-suc 2 x, mul_comm (2 ^ x) 2))))

pub packed-same : (f g : ℕ → ℕ) (count : ℕ) → ((x : ℕ) → x < count → f x ≡ g x) → packed f count ≡ packed g count
unfolding packed
packed-same f g zero h = refl
packed-same f g (suc count) h =
    rw (h 0 (omega arith), packed-same (λ x. f (suc x)) (λ x. g (suc x)) count (λ x l. h (suc x) (omega (arith, l))))

pub packed_bits : (w count : ℕ) → w < 2 ^ count → packed (λ x. bit x w) count ≡ w
unfolding packed
packed_bits w zero l = omega arith
packed_bits w (suc count) l =
    let low : w / 1 % 2 + 2 * (w / 2) ≡ w = omega arith in
    rw (
      packed-same (λ x. bit (suc x) w) (λ x. bit x (w / 2)) count (λ x k. bit_half x w),
      packed_bits (w / 2) count (omega (arith, pow-suc 2 count)),
    )
    low

-- of bits that are 0 or 1
pub packed-small : (f : ℕ → ℕ) (count : ℕ) → ((x : ℕ) → f x < 2) → packed f count < 2 ^ count
unfolding packed
packed-small f zero h = omega arith
packed-small f (suc count) h =
    omega (arith, h 0, pow-suc 2 count, packed-small (λ x. f (suc x)) count (λ x. h (suc x)))

pub bit-packed : (f : ℕ → ℕ) (count x : ℕ) → ((x : ℕ) → f x < 2) → x < count → bit x (packed f count) ≡ f x
unfolding packed
bit-packed f zero x h l = absurd (omega arith)
bit-packed f (suc count) zero h l =
    let small = h 0 in
    let low : (f 0 + 2 * packed (λ x. f (suc x)) count) / 1 % 2 ≡ f 0 = omega (arith, small) in
    low
bit-packed f (suc count) (suc x) h l =
    let small = h 0 in
    let half : (f 0 + 2 * packed (λ x. f (suc x)) count) / 2 ≡ packed (λ x. f (suc x)) count = omega (arith, small) in
    bit_half x (f 0 + 2 * packed (λ x. f (suc x)) count)
    ∙ (rw half (bit-packed (λ x. f (suc x)) count x (λ x. h (suc x)) (omega arith)))

-- words one after another
pub length-words_from : (f : ℕ → ℕ) (count k : ℕ) → length (words_from f count k) ≡ count
unfolding words_from
length-words_from f zero k = refl
length-words_from f (suc count) k = ap suc (length-words_from f count (suc k))

pub words_from_at :
    (f : ℕ → ℕ) (count k i : ℕ) → i < count → get_or (words_from f count k) i 0 ≡ packed (λ x. f ((k + i) * 64 + x)) 64
unfolding words_from
words_from_at f zero k i l = absurd (omega arith)
words_from_at f (suc count) k zero l = rw (add-zero k)
words_from_at f (suc count) k (suc i) l =
    let e : k + suc i ≡ suc k + i = omega arith in
    rw e (words_from_at f count (suc k) i (omega arith))
