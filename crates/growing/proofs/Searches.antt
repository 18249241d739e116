-- The search for the first failing step finds nothing exactly when no step fails, and else the first.
use Prim.Native.Nat.{ℕ, zero, suc, ◌^◌, ◌≤◌, ◌<◌}
use mathlib.Core.Path.{◌≡◌, refl}
use mathlib.Core.Logic.{⊎_elim}
use mathlib.Core.Bool.{Bool, true, false, cond, not, ◌&&◌}
use mathlib.Core.List.{List}
use lib.Dec.{T, ltb}
use lib.ListN.{length, get_or, set}
use borrow.Author.Tests.{ltb-true, ltb-false}
use native.Mathlib.Nat.{zero-add, eq-or-lt_of_le}
use native.Mathlib.Omega.{arith}
use Rattle.answers.specs.Meaning.{number, from_number, contained}
use Rattle.answers.specs.declared.Answer.{Answer}
use Rattle.answers.specs.declared.Answer.TheVariants.{Silent}
use Rattle.answers.proofs.Claims.{number_from, from_number_lem, number_small}
use Rattle.situations.specs.Meaning.{index, situation_at, raises, Step}
use Rattle.situations.proofs.Numbers.{situation_at-length, situation_at-index, index-situation_at, index-small}
use Rattle.steps.specs.Meaning.{fails, first_from, answer_fails, first_answer, column_fails, first_column, situation_fails, first_situation}
use Rattle.steps.proofs.Firsts.{first_passes}
use Rattle.growing.specs.Meaning.{FailingStep, Before, by_situation, by_column, by_answer}
use Rattle.growing.proofs.Mergers.{StepsGrow}

-- no number before the first one that passes a test does
least_now :
    (test : ℕ → Bool) (k j next : ℕ) (t : Bool) →
    test k ≡ t →
    (suc k ≤ j → j < next → test j ≡ false) →
    k ≤ j →
    j < cond t k next →
    test j ≡ false
least_now test k j next true e h i l = absurd (omega arith)
least_now test k j next false e h i l =
    ⊎_elim (λ q. rw (← q) e) (λ q. h (omega (arith, q)) l) (eq-or-lt_of_le {n = k} {m = j} i)

first-least : (test : ℕ → Bool) (count k j : ℕ) → k ≤ j → j < first_from test count k → test j ≡ false
unfolding first_from
first-least test zero k j h l = absurd (omega arith)
first-least test (suc count) k j h l = least_now test k j (first_from test count (suc k)) (test k) refl (first-least test count (suc k) j) h l

-- from tests to facts
spared : (r c : Bool) → T r → r && not c ≡ false → T c
spared true true h e = tt
spared true false h e = absurd (let z : ◌≡◌ {A = ℕ} 0 1 = cc in omega arith)
spared false c h e = absurd h

lost-raised : (r c : Bool) → r && not c ≡ true → T r
lost-raised true c e = tt
lost-raised false c e = absurd (let z : ◌≡◌ {A = ℕ} 0 1 = cc in omega arith)

lost-not : (r c : Bool) → r && not c ≡ true → T c → ⊥
lost-not true true e h = let z : ◌≡◌ {A = ℕ} 0 1 = cc in omega arith
lost-not true false e h = h
lost-not false c e h = let z : ◌≡◌ {A = ℕ} 0 1 = cc in omega arith

module _ (f : List Answer → Answer) where
  -- what a search has passed does not fail
  module _ (s : List Answer) where
    answer-fine : (c : ℕ) (a : Answer) → answer_fails f s c (number a) ≡ false → Step s c a → T (contained (f s) (f (set s c a)))
    answer-fine c a e k =
        spared (raises (get_or s c Silent) a) (contained (f s) (f (set s c a))) k.raised (rw (number_from a) at e)

    column-fine : (c : ℕ) (a : Answer) → column_fails f s c ≡ false → Step s c a → T (contained (f s) (f (set s c a)))
    unfolding column_fails first_answer
    column-fine c a e k =
        let four : 4 ≤ first_answer f s c = ltb-false (first_answer f s c) 4 e in
        let small : number a ≤ 3 = number_small a in
        answer-fine c a (first-least (answer_fails f s c) 4 0 (number a) (omega arith) (omega arith)) k

    situation-fine : (c : ℕ) (a : Answer) → length s ≤ first_column f s → Step s c a → T (contained (f s) (f (set s c a)))
    unfolding first_column
    situation-fine c a h k =
        let i : c < length s = k.inside in
        column-fine c a (first-least (column_fails f s) (length s) 0 c (omega arith) (omega arith)) k

  module _ (n : ℕ) where
    passed-fine :
        (s : List Answer) (c : ℕ) (a : Answer) →
        length s ≡ n →
        index s < first_situation f n →
        Step s c a →
        T (contained (f s) (f (set s c a)))
    unfolding first_situation situation_fails
    passed-fine s c a e l k =
        let z : situation_at n (index s) ≡ s = rw e at (situation_at-index s) in
        let t : ltb (first_column f s) n ≡ false = rw z at (first-least (situation_fails f n) (4 ^ n) 0 (index s) (omega arith) l) in
        situation-fine s c a (rw e (ltb-false (first_column f s) n t)) k

    -- nothing found
    pub none-grows : 4 ^ n ≤ first_situation f n → StepsGrow f n
    none-grows h s c a e k = let i : index s < 4 ^ n = rw e at (index-small s) in passed-fine s c a e (omega arith) k

    -- something found: it fails, and is the first
    module _ (found : first_situation f n < 4 ^ n) where
      abbrev pub at_situation : List Answer
      at_situation = situation_at n (first_situation f n)

      abbrev pub at_column : ℕ
      at_column = first_column f at_situation

      abbrev pub at_answer : ℕ
      at_answer = first_answer f at_situation at_column

      column-small : at_column < n
      unfolding first_situation situation_fails
      column-small =
          ltb-true (first_column f (situation_at n (first_situation f n))) n
          (first_passes (situation_fails f n) (4 ^ n) 0 (rw (zero-add (4 ^ n)) found))

      column-inside : at_column < length at_situation
      column-inside = rw (situation_at-length n (first_situation f n)) column-small

      answer-small : at_answer < 4
      unfolding column_fails first_column
      answer-small =
          ltb-true at_answer 4
          (first_passes (column_fails f at_situation) (length at_situation) 0 (rw (zero-add (length at_situation)) column-inside))

      fails_there : fails f at_situation at_column (from_number at_answer) ≡ true
      unfolding first_answer
      fails_there = first_passes (answer_fails f at_situation at_column) 4 0 answer-small

      -- what stands before it was passed
      passed-column : (t : List Answer) (c : ℕ) → t ≡ at_situation → c < at_column → column_fails f t c ≡ false
      unfolding first_column
      passed-column t c q l = rw q (first-least (column_fails f at_situation) (length at_situation) 0 c (omega arith) l)

      passed-answer :
          (t : List Answer) (c : ℕ) (b : Answer) →
          t ≡ at_situation →
          c ≡ at_column →
          number b < number (from_number at_answer) →
          answer_fails f t c (number b) ≡ false
      unfolding first_answer
      passed-answer t c b q r l =
          let small : number (from_number at_answer) ≡ at_answer = from_number_lem at_answer (omega (arith, answer-small)) in
          rw (q, r) (first-least (answer_fails f at_situation at_column) 4 0 (number b) (omega arith) (rw small at l))

      pub found-fails : FailingStep f at_situation at_column (from_number at_answer)
      found-fails =
          record {
            step = record {
              inside = column-inside;
              raised = lost-raised (raises (get_or at_situation at_column Silent) (from_number at_answer)) (contained (f at_situation) (f (set at_situation at_column (from_number at_answer)))) fails_there;
            };
            lost = lost-not (raises (get_or at_situation at_column Silent) (from_number at_answer)) (contained (f at_situation) (f (set at_situation at_column (from_number at_answer)))) fails_there;
          }

      pub found_first :
          (t : List Answer) (c : ℕ) (b : Answer) →
          length t ≡ n →
          Before t c b at_situation at_column (from_number at_answer) →
          FailingStep f t c b →
          ⊥
      found_first t c b e (by_situation l) h =
          h.lost (passed-fine t c b e (rw (index-situation_at n (first_situation f n) found) at l) h.step)
      found_first t c b e (by_column q l) h =
          h.lost (column-fine t c b (passed-column t c q l) h.step)
      found_first t c b e (by_answer q r l) h = h.lost (answer-fine t c b (passed-answer t c b q r l) h.step)

      pub answer-below : at_answer < 4
      answer-below = answer-small
