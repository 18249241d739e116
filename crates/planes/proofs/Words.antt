-- The words that are filled are those of the meaning.
use Prim.Native.Nat.{ℕ, ◌+◌, ◌*◌, ◌/◌, ◌%◌, ◌<◌}
use mathlib.Core.Path.{◌≡◌, sym, ◌∙◌}
use mathlib.Core.List.{List}
use lib.ListN.{length, get_or}
use lib.Seq.{ext_get_or}
use native.Mathlib.Nat.{zero-add}
use native.Mathlib.Omega.{arith}
use Rattle.words.specs.Meaning.{bit, words_from}
use Rattle.words.proofs.Bits.{bit-small}
use Rattle.words.proofs.Packed.{packed-same, packed_bits, length-words_from, words_from_at}
use Rattle.answers.specs.Meaning.{number}
use Rattle.answers.specs.declared.Answer.{Answer}
use Rattle.answers.proofs.Claims.{from_number_lem}
use Rattle.lanes.specs.Meaning.{pair}
use Rattle.planes.specs.Meaning.{bury_at, keep_at}
use Rattle.planes.specs.Inside.{FilledTo}

-- the two bits of an answer's number
pair-number : (x b k : ℕ) → number (pair x b k) ≡ bit x b + 2 * bit x k
pair-number x b k = from_number_lem (bit x b + 2 * bit x k) (omega (arith, bit-small x b, bit-small x k))

low_bit : (x b k : ℕ) {a : Answer} → pair x b k ≡ a → bit x b ≡ bit 0 (number a)
low_bit x b k e =
    let small = bit-small x b in
    let h : (bit x b + 2 * bit x k) / 1 % 2 ≡ bit x b = omega (arith, small) in
    sym (rw (← e, pair-number x b k) h)

high_bit : (x b k : ℕ) {a : Answer} → pair x b k ≡ a → bit x k ≡ bit 1 (number a)
high_bit x b k e =
    let small = bit-small x b in
    let less = bit-small x k in
    let h : (bit x b + 2 * bit x k) / 2 % 2 ≡ bit x k = omega (arith, small, less) in
    sym (rw (← e, pair-number x b k) h)

-- words with these bits
words_same :
    (f : ℕ → ℕ) (words : List ℕ) →
    length words ≡ 64 →
    ((k : ℕ) → k < 64 → get_or words k 0 < 18446744073709551616) →
    ((k x : ℕ) → k < 64 → x < 64 → bit x (get_or words k 0) ≡ f (k * 64 + x)) →
    words ≡ words_from f 64 0
words_same f words size small bits =
    ext_get_or 0 words (words_from f 64 0) (size ∙ sym (length-words_from f 64 0))
    (λ k l.
    let m : k < 64 = omega (arith, l, size) in
    sym (packed_bits (get_or words k 0) 64 (small k m))
    ∙ packed-same (λ x. bit x (get_or words k 0)) (λ x. f (k * 64 + x)) 64 (λ x h. bits k x m h)
    ∙ sym (words_from_at f 64 0 k m ∙ (rw (zero-add k))))

module _ (nodes : List ℕ) (n : ℕ) where
  module _ {bury keep : List ℕ} (f : FilledTo nodes n 64 bury keep) where
    pub bury-same : bury ≡ words_from (bury_at nodes n) 64 0
    bury-same =
        words_same (bury_at nodes n) bury f.buries f.low
        (λ k x l m. low_bit x (get_or bury k 0) (get_or keep k 0) (f.answered k x l m))

    pub keep_same : keep ≡ words_from (keep_at nodes n) 64 0
    keep_same =
        words_same (keep_at nodes n) keep f.keeps f.high
        (λ k x l m. high_bit x (get_or bury k 0) (get_or keep k 0) (f.answered k x l m))
