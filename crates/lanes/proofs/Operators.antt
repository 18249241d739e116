-- The operators in one lane of two words.
use Prim.Native.Nat.{ℕ, ◌+◌, ◌*◌, ◌<◌}
use mathlib.Core.Path.{◌≡◌, refl}
use lib.Bits.{bit_and, bit_or, bit_xor}
use Rattle.words.specs.Meaning.{ones}
use Rattle.words.proofs.Bits.{bit-and, bit-or, bit-xor, each_two, each-four, bit-ones}
use Rattle.answers.specs.Meaning.{from_number, negate, turn, meet, join}
use Rattle.lanes.specs.Meaning.{pair}

pub negate-pair : (x b k : ℕ) → x < 64 → pair x k b ≡ negate (pair x b k)
negate-pair x b k l = each_two (λ b k. from_number (k + 2 * b) ≡ negate (from_number (b + 2 * k))) (search refl) x b k

pub turn-pair : (x b k : ℕ) → x < 64 → pair x (bit_xor b ones) (bit_xor k b) ≡ turn (pair x b k)
turn-pair x b k l =
    rw (bit-xor x b ones, bit-xor x k b, bit-ones x l)
    (each_two (λ b k. from_number (bit_xor b 1 + 2 * bit_xor k b) ≡ turn (from_number (b + 2 * k))) (search refl) x b k)

pub meet-pair : (x b k c d : ℕ) → pair x (bit_and b c) (bit_and k d) ≡ meet (pair x b k) (pair x c d)
meet-pair x b k c d =
    rw (bit-and x b c, bit-and x k d)
    (each-four (λ b k c d. from_number (bit_and b c + 2 * bit_and k d) ≡ meet (from_number (b + 2 * k)) (from_number (c + 2 * d)))
    (search refl)
    x
    b
    k
    c
    d)

pub join-pair : (x b k c d : ℕ) → pair x (bit_or b c) (bit_or k d) ≡ join (pair x b k) (pair x c d)
join-pair x b k c d =
    rw (bit-or x b c, bit-or x k d)
    (each-four (λ b k c d. from_number (bit_or b c + 2 * bit_or k d) ≡ join (from_number (b + 2 * k)) (from_number (c + 2 * d)))
    (search refl)
    x
    b
    k
    c
    d)
