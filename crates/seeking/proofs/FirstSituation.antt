-- The searches for the first situation, one by one and word by word.
use Prim.Native.Nat.{ℕ, ◌+◌, ◌-◌, ◌*◌, ◌/◌, ◌%◌, ◌^◌, ◌≤◌, ◌<◌}
use mathlib.Core.Path.{◌≡◌, refl, ap, sym, ◌∙◌}
use mathlib.Core.Bool.{Bool, true, false}
use mathlib.Core.Logic.{⊎_elim}
use mathlib.Core.List.{List}
use lib.Dec.{ltb}
use lib.Bits.{bit_or}
use borrow.Author.Tests.{lt-ltb, le-ltb, ltb-false}
use native.Mathlib.Nat.{zero-add, eq-or-lt_of_le}
use native.Mathlib.Omega.{arith}
use Rattle.std.specs.Int.{div_ceil}
use Rattle.std.specs.Prelude.{Option, Some, None}
use Rattle.answers.specs.Meaning.{number}
use Rattle.answers.specs.declared.Answer.{Answer}
use Rattle.answers.proofs.Claims.{number_small}
use Rattle.situations.specs.Meaning.{weight, situation_at}
use Rattle.situations.proofs.Numbers.{situation_at-length}
use Rattle.situations.proofs.Weights.{weight_power, power_small}
use Rattle.steps.specs.declared.Raise.{Raise}
use Rattle.steps.specs.Meaning.{Step, in_words, first_from, first_answer, first_column, situation_fails, first_situation, step_at, step_from, first_step, step_told}
use Rattle.steps.specs.Inside.{grown, Numbered, Looking}
use Rattle.steps.proofs.Firsts.{first_skip, first-none}
use Rattle.steps.proofs.Looking.{looking_more, looking_found, looking_all}
use Rattle.steps.proofs.FirstAnswer.{beyond-none}
use Rattle.steps.proofs.FirstColumn.{weight-numbered}
use Rattle.steps.proofs.NoneFails.{situation-passed}
use Rattle.seeking.specs.Inside.{Kept, Sifted, Seeking}

-- one by one
module _ (f : List Answer → Answer) (n w : ℕ) (l : w < weight n) where
  at-situation : {r : Step} → r ≡ step_from f n w → r ≡ step_at f n w
  at-situation e = e ∙ (rw (lt-ltb w (weight n) l))

  -- a step from the situation fails, or none does
  told-some : (x : Raise) → step_told n w (Some x) ≡ step_from f n w → situation_fails f n w ≡ true
  unfolding situation_fails
  told-some x e = go (ltb (first_column f s) n) refl
    where
      s : List Answer
      s = situation_at n w

      go : (t : Bool) → ltb (first_column f s) n ≡ t → t ≡ true
      go true h = refl
      go false h =
          let z : number x.answer ≡ first_answer f s (first_column f s) = ap (λ (q : Step). q.answer) (at-situation e) in
          let y : 4 ≡ first_answer f s (first_column f s) =
          beyond-none f s (first_column f s) (rw (situation_at-length n w) (ltb-false (first_column f s) n h)) in
          absurd (omega (arith, z, y, number_small x.answer))

  told-none : step_told n w None ≡ step_from f n w → situation_fails f n w ≡ false
  unfolding situation_fails
  told-none e =
      let z : n ≡ first_column f (situation_at n w) = ap (λ (q : Step). q.column) (rw (lt-ltb w (weight n) l) at (at-situation e)) in
      rw (← z) (le-ltb n n (omega arith))

-- none at all
module _ (f : List Answer → Answer) (n : ℕ) where
  beyond-all : (w : ℕ) → weight n ≤ w → step_told n (weight n) None ≡ step_from f n w
  beyond-all w l = rw (le-ltb (weight n) (weight n) (omega arith), le-ltb w (weight n) l)

  module _ (start : ℕ) (i : start < weight n) where
    all-is : weight n ≡ 4 ^ n
    all-is = weight_power n (weight-numbered n start i).most

    module _ (w : ℕ) (l : Looking (situation_fails f n) start (weight n) w) where
      pub situation-more : w < weight n → step_told n w None ≡ step_from f n w → Looking (situation_fails f n) start (weight n) (w + 1)
      situation-more h e = looking_more (situation_fails f n) start (weight n) w l h (told-none f n w h e)

      pub situation-found :
          (x : Raise) →
          w < weight n →
          step_told n w (Some x) ≡ step_from f n w →
          step_told n (weight n) (Some x) ≡ step_from f n (first_from (situation_fails f n) (4 ^ n - start) start)
      situation-found x h e =
          e ∙ ap (step_from f n) (rw (← all-is) (looking_found (situation_fails f n) start (weight n) w l h (told-some f n w h x e)))

      pub situation-all :
          weight n ≤ w → step_told n (weight n) None ≡ step_from f n (first_from (situation_fails f n) (4 ^ n - start) start)
      situation-all h =
          beyond-all w h ∙ ap (step_from f n) (rw (← all-is) (looking_all (situation_fails f n) start (weight n) w l h))

-- word by word
module _ (bury keep : List ℕ) (n : ℕ) where
  module _ (word : ℕ) (s : Seeking (situation_fails (in_words bury keep) n) (weight n) word) where
    module _ (l : word < div_ceil (weight n) 64) where
      word-inside : word * 64 < weight n
      word-inside = omega arith

      numbered : (w : ℕ) → w < weight n → Numbered n w
      numbered w h = weight-numbered n w h

      most : n ≤ 6
      most = (numbered (word * 64) word-inside).most

      total-is : weight n ≡ 4 ^ n
      total-is = weight_power n most

      pub seeking_word : (n ≤ 6) × (word < 64)
      seeking_word = (most, let z : weight n ≤ 4096 = rw total-is (power_small n most) in omega (arith, word-inside))

      pub seeking_more : Sifted bury keep n word false → Seeking (situation_fails (in_words bury keep) n) (weight n) (word + 1)
      seeking_more t =
          record {
            none = λ j m h.
                ⊎_elim (λ q. situation-passed bury keep n j (numbered j h) (kept j (rw q (t.passed refl))))
                (λ q. s.none j (omega (arith, q)) h)
                (eq-or-lt_of_le {n = j / 64} {m = word} (omega (arith, m)));
          }
        where
          kept :
              (w : ℕ) →
              ((k : ℕ) → k < 2 * n → Kept bury keep (w / 64) k) →
              (k : ℕ) →
              k < 2 * n →
              grown bury keep w (bit_or w (2 ^ k)) ≡ true
          kept w p k h = let z : w / 64 * 64 + w % 64 ≡ w = omega arith in rw z at ((p k h).kept (w % 64) (omega arith))

      pub seeking_found :
          (r : Option Raise) →
          step_told n (weight n) r
          ≡ step_from (in_words bury keep) n (first_from (situation_fails (in_words bury keep) n) (4 ^ n - word * 64) (word * 64)) →
          step_told n (weight n) r ≡ first_step (in_words bury keep) n
      unfolding first_step first_situation
      seeking_found r e =
          let z : word * 64 + (4 ^ n - word * 64) ≡ 4 ^ n = omega (arith, total-is, word-inside) in
          e
          ∙ ap (step_from (in_words bury keep) n)
          (sym
          (rw (z, zero-add) at
          (first_skip (situation_fails (in_words bury keep) n) (word * 64) (4 ^ n - word * 64) 0
          (λ j h m. s.none j (rw zero-add at m) (omega (arith, m, word-inside))))))

    module _ (l : div_ceil (weight n) 64 ≤ word) where
      beyond : weight n ≤ first_situation (in_words bury keep) n
      unfolding first_situation
      beyond = go (ltb 6 n) refl
        where
          go : (t : Bool) → ltb 6 n ≡ t → weight n ≤ first_situation (in_words bury keep) n
          go true e = let z : weight n ≡ 0 = rw e in omega arith
          go false e =
              let z : weight n ≡ 4 ^ n = weight_power n (ltb-false 6 n e) in
              let q : first_from (situation_fails (in_words bury keep) n) (4 ^ n) 0 ≡ 4 ^ n =
              first-none (situation_fails (in_words bury keep) n) (4 ^ n)
              (λ j h. let i : j < weight n = omega (arith, h, z) in s.none j (omega (arith, i, l)) i) in
              omega (arith, z, q)

      pub seeking_all : step_told n (weight n) None ≡ first_step (in_words bury keep) n
      unfolding first_step
      seeking_all = beyond-all (in_words bury keep) n (first_situation (in_words bury keep) n) beyond

pub ruleset situation_laws = (situation-more, situation-found, situation-all)

pub ruleset word_laws = (seeking_word, seeking_more, seeking_found, seeking_all)

-- a place in a word behind a situation is a number of 64 bits
module _ (n total : ℕ) (v : total ≡ weight n) (start : ℕ) (l : start < total) where
  total_small : total ≤ 4096
  total_small =
      let most = (weight-numbered n start (rw v at l)).most in
      let same : total ≡ 4 ^ n = v ∙ weight_power n most in
      rw same (power_small n most)

  pub seeking_sum : (k : ℕ) → k ≤ 4096 → start + k < 18446744073709551616
  seeking_sum k m = omega (arith, total_small)
