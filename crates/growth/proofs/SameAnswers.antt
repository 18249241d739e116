-- Two functions that agree on the situations of n columns have the same first failing step.
use Prim.Native.Nat.{ℕ, ◌^◌}
use mathlib.Core.Path.{◌≡◌, ap, ◌∙◌}
use mathlib.Core.List.{List}
use lib.Dec.{ltb}
use lib.ListN.{length, set, length-set}
use Rattle.answers.specs.Meaning.{from_number}
use Rattle.answers.specs.declared.Answer.{Answer}
use Rattle.situations.specs.Meaning.{situation_at}
use Rattle.situations.proofs.Numbers.{situation_at-length}
use Rattle.steps.specs.Meaning.{fails, answer_fails, first_answer, column_fails, first_column, situation_fails, first_situation}
use Rattle.steps.specs.Meaning.{step_at, first_step}
use Rattle.steps.proofs.Firsts.{first-same}

module _ (f g : List Answer → Answer) (n : ℕ) (agree : (s : List Answer) → length s ≡ n → f s ≡ g s) where
  module _ (s : List Answer) (e : length s ≡ n) where
    fails-same : (c : ℕ) (a : Answer) → fails f s c a ≡ fails g s c a
    fails-same c a = rw (agree s e, agree (set s c a) (length-set s c a ∙ e))

    first_answer-same : (c : ℕ) → first_answer f s c ≡ first_answer g s c
    unfolding first_answer
    first_answer-same c = first-same (answer_fails f s c) (answer_fails g s c) (λ a. fails-same c (from_number a)) 4 0

    first_column-same : first_column f s ≡ first_column g s
    unfolding first_column column_fails
    first_column-same = first-same (column_fails f s) (column_fails g s) (λ c. ap (λ a. ltb a 4) (first_answer-same c)) (length s) 0

  first_situation-same : first_situation f n ≡ first_situation g n
  unfolding first_situation situation_fails
  first_situation-same =
      first-same (situation_fails f n) (situation_fails g n)
      (λ w. ap (λ c. ltb c n) (first_column-same (situation_at n w) (situation_at-length n w)))
      (4 ^ n)
      0

  step_at-same : (w : ℕ) → step_at f n w ≡ step_at g n w
  step_at-same w =
      let e : length (situation_at n w) ≡ n = situation_at-length n w in
      rw (first_column-same (situation_at n w) e, first_answer-same (situation_at n w) e (first_column g (situation_at n w)))

  pub first_step-same : first_step f n ≡ first_step g n
  unfolding first_step
  first_step-same = rw (first_situation-same, step_at-same (first_situation g n))
