-- What the planes hold, for those who read them.
use Prim.Native.Nat.{ℕ, ◌+◌, ◌*◌, ◌/◌, ◌%◌, ◌^◌, ◌≤◌, ◌<◌}
use mathlib.Core.Path.{◌≡◌, refl, ap, sym, ◌∙◌}
use mathlib.Core.Logic.{⊎_elim}
use mathlib.Core.Bool.{Bool, true, false}
use mathlib.Core.List.{List, []}
use lib.Dec.{eqb}
use lib.ListN.{length, get_or, replicate, get_or-eq_default}
use borrow.Author.Tests.{eqb-true, eq-eqb, lt-ltb, le-ltb}
use native.Mathlib.Nat.{zero-add}
use native.Mathlib.Omega.{arith}
use Rattle.words.specs.Meaning.{bit, packed, words_from}
use Rattle.words.proofs.Bits.{bit-small, bit-none}
use Rattle.words.proofs.Packed.{bit-packed, packed-small, length-words_from, words_from_at}
use Rattle.refusals.specs.Meaning.{none}
use Rattle.answers.specs.Meaning.{number, from_number}
use Rattle.answers.specs.declared.Answer.{Answer}
use Rattle.answers.specs.declared.Answer.TheVariants.{Silent}
use Rattle.answers.proofs.Every.{each}
use Rattle.situations.specs.Meaning.{situation_at}
use Rattle.situations.proofs.Weights.{power_small}
use Rattle.nodes.specs.Meaning.{full, run, evaluate_of}
use Rattle.running.proofs.Heights.{evaluate-columns}
use Rattle.planes.specs.Meaning.{Filled, lane, answer_at, bury_at, keep_at, planes_of}
use Rattle.planes.proofs.Filling.{below_or_not}

-- words put together from bits
module _ (f : ℕ → ℕ) (small : (w : ℕ) → f w < 2) where
  word_at : (k : ℕ) → k < 64 → get_or (words_from f 64 0) k 0 ≡ packed (λ x. f (k * 64 + x)) 64
  word_at k l = words_from_at f 64 0 k l ∙ (rw (zero-add k))

  word-beyond : (k : ℕ) → 64 ≤ k → get_or (words_from f 64 0) k 0 ≡ 0
  word-beyond k l = get_or-eq_default (words_from f 64 0) 0 {n = k} (rw (length-words_from f 64 0) l)

  word_small : (k : ℕ) → get_or (words_from f 64 0) k 0 < 18446744073709551616
  word_small k =
      ⊎_elim
      (λ l. rw (word_at k l) (packed-small (λ x. f (k * 64 + x)) 64 (λ x. small (k * 64 + x))))
      (λ l. rw (word-beyond k l) (omega arith))
      (below_or_not k 64)

  word-bit : (w : ℕ) → w < 4096 → bit (w % 64) (get_or (words_from f 64 0) (w / 64) 0) ≡ f w
  word-bit w l =
      let e : w / 64 * 64 + w % 64 ≡ w = omega arith in
      rw (word_at (w / 64) (omega arith), bit-packed (λ x. f (w / 64 * 64 + x)) 64 (w % 64) (λ x. small (w / 64 * 64 + x)) (omega arith), e)

  word_no_bit : (w : ℕ) → 4096 ≤ w → bit (w % 64) (get_or (words_from f 64 0) (w / 64) 0) ≡ 0
  word_no_bit w l = rw (word-beyond (w / 64) (omega arith)) (bit-none (w % 64) (omega arith))

-- an answer from the bits of its number
bits_answer : (a : Answer) → from_number (bit 0 (number a) + 2 * bit 1 (number a)) ≡ a
bits_answer = each _ (search refl)

module _ (nodes : List ℕ) (n : ℕ) where
  bury-bit : (w : ℕ) → bury_at nodes n w < 2
  bury-bit w = bit-small 0 (number (answer_at nodes n w))

  keep_bit : (w : ℕ) → keep_at nodes n w < 2
  keep_bit w = bit-small 1 (number (answer_at nodes n w))

  lane-answer : (w : ℕ) → w < 4096 → lane (words_from (bury_at nodes n) 64 0) (words_from (keep_at nodes n) 64 0) w ≡ answer_at nodes n w
  lane-answer w l =
      rw (word-bit (bury_at nodes n) bury-bit w l, word-bit (keep_at nodes n) keep_bit w l) (bits_answer (answer_at nodes n w))

  lane-beyond : (w : ℕ) → 4096 ≤ w → lane (words_from (bury_at nodes n) 64 0) (words_from (keep_at nodes n) 64 0) w ≡ Silent
  lane-beyond w l = rw (word_no_bit (bury_at nodes n) bury-bit w l, word_no_bit (keep_at nodes n) keep_bit w l)

  module _ {p : Filled} (e : p ≡ planes_of nodes n) where
    -- the array is refused as the evaluator refuses it, or not at all
    pub planes_refused : (p.refusal.number ≡ 0 → ⊥) → p.refusal ≡ (evaluate_of nodes (replicate n 0)).refusal
    unfolding planes_of
    planes_refused h = go (eqb (evaluate_of nodes (replicate n 0)).refusal.number 0) refl
      where
        go :
            (t : Bool) →
            eqb (evaluate_of nodes (replicate n 0)).refusal.number 0 ≡ t →
            p.refusal ≡ (evaluate_of nodes (replicate n 0)).refusal
        go true q = absurd (h (ap (λ (x : Filled). x.refusal.number) (rw q at e)))
        go false q = ap (λ (x : Filled). x.refusal) (rw q at e)

    pub planes_fine : p.refusal.number ≡ 0 → (evaluate_of nodes (replicate n 0)).refusal.number ≡ 0
    unfolding planes_of
    planes_fine h = go (eqb (evaluate_of nodes (replicate n 0)).refusal.number 0) refl
      where
        go :
            (t : Bool) →
            eqb (evaluate_of nodes (replicate n 0)).refusal.number 0 ≡ t →
            (evaluate_of nodes (replicate n 0)).refusal.number ≡ 0
        go true q = eqb-true (evaluate_of nodes (replicate n 0)).refusal.number 0 q
        go false q = sym (ap (λ (x : Filled). x.refusal.number) (rw q at e)) ∙ h

    -- one that is not refused
    module _ (h : (evaluate_of nodes (replicate n 0)).refusal.number ≡ 0) where
      planes_are : p ≡ record { refusal = none; bury = words_from (bury_at nodes n) 64 0; keep = words_from (keep_at nodes n) 64 0 }
      unfolding planes_of
      planes_are = rw (eq-eqb (evaluate_of nodes (replicate n 0)).refusal.number 0 h) at e

      pub planes_none : p.refusal ≡ none
      planes_none = ap (λ (x : Filled). x.refusal) planes_are

      pub bury-size : length p.bury ≡ 64
      bury-size = rw planes_are (length-words_from (bury_at nodes n) 64 0)

      pub keep_size : length p.keep ≡ 64
      keep_size = rw planes_are (length-words_from (keep_at nodes n) 64 0)

      pub bury-small : (k : ℕ) → get_or p.bury k 0 < 18446744073709551616
      bury-small k = rw planes_are (word_small (bury_at nodes n) bury-bit k)

      pub keep_small : (k : ℕ) → get_or p.keep k 0 < 18446744073709551616
      keep_small k = rw planes_are (word_small (keep_at nodes n) keep_bit k)

      pub planes_lane : (w : ℕ) → w < 4 ^ n → lane p.bury p.keep w ≡ (run full (situation_at n w) 0 [] nodes).answer
      planes_lane w l =
          rw (planes_are, lane-answer w (omega (arith, l, power_small n (evaluate-columns nodes n h).1)), lt-ltb w (4 ^ n) l)

      pub planes_beyond : (w : ℕ) → 4 ^ n ≤ w → lane p.bury p.keep w ≡ Silent
      planes_beyond w l =
          ⊎_elim
          (λ m. rw (planes_are, lane-answer w m, le-ltb w (4 ^ n) l))
          (λ m. rw (planes_are, lane-beyond w m))
          (below_or_not w 4096)
