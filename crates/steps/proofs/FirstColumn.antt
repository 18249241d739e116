-- The first failing step from a situation: the search for its column. A number of no situation has no step.
use Prim.Native.Nat.{ℕ, ◌+◌, ◌-◌, ◌≤◌, ◌<◌}
use mathlib.Core.Path.{◌≡◌, refl, ◌∙◌}
use mathlib.Core.Bool.{Bool, true, false, cond}
use mathlib.Core.List.{List}
use lib.Dec.{ltb}
use borrow.Author.Tests.{lt-ltb, ltb-false}
use native.Mathlib.Omega.{arith}
use Rattle.answers.specs.Meaning.{number}
use Rattle.answers.specs.declared.Answer.{Answer}
use Rattle.answers.proofs.Claims.{number_small}
use Rattle.situations.specs.Meaning.{weight, situation_at}
use Rattle.situations.proofs.Numbers.{situation_at-length}
use Rattle.situations.proofs.Weights.{weight_power}
use Rattle.steps.specs.Meaning.{first_answer, column_fails, first_column, step_at, no_step}
use Rattle.steps.specs.Inside.{Numbered, Looking}
use Rattle.steps.proofs.Looking.{looking_none, looking_more, looking_found, looking_all}
use Rattle.steps.proofs.FirstAnswer.{beyond-none}

module _ (f : List Answer → Answer) (n w : ℕ) where
  pub column-none : Looking (column_fails f (situation_at n w)) 0 n 0
  column-none = looking_none (column_fails f (situation_at n w)) 0 n (omega arith)

  made :
      (c a : ℕ) →
      c ≡ first_column f (situation_at n w) →
      a ≡ first_answer f (situation_at n w) c →
      record { number = w; column = c; answer = a } ≡ step_at f n w
  made c a e q = rw (q, e)

  module _ (k : ℕ) (l : Looking (column_fails f (situation_at n w)) 0 n k) where
    pub column-more : k < n → 4 ≡ first_answer f (situation_at n w) k → Looking (column_fails f (situation_at n w)) 0 n (k + 1)
    unfolding column_fails
    column-more h e = looking_more (column_fails f (situation_at n w)) 0 n k l h (rw (← e))

    column-found : {a : ℕ} → k < n → a ≡ first_answer f (situation_at n w) k → a < 4 → k ≡ first_column f (situation_at n w)
    unfolding first_column column_fails
    column-found {a} h e t =
        let z : n - 0 ≡ n = omega arith in
        rw (situation_at-length n w) (rw z at (looking_found (column_fails f (situation_at n w)) 0 n k l h (rw (← e) (lt-ltb a 4 t))))

    column-all : n ≤ k → k ≡ first_column f (situation_at n w)
    unfolding first_column
    column-all h =
        let z : n - 0 ≡ n = omega arith in
        rw (situation_at-length n w) (rw z at (looking_all (column_fails f (situation_at n w)) 0 n k l h))

    pub step-found :
        (a : Answer) → k < n → number a ≡ first_answer f (situation_at n w) k → record { number = w; column = k; answer = number a } ≡ step_at f n w
    step-found a h e = made k (number a) (column-found h e (omega (arith, number_small a))) e

    pub step-none : n ≤ k → Numbered n w → cond (ltb w (weight n)) (record { number = w; column = n; answer = 4 }) (no_step n) ≡ step_at f n w
    step-none h i =
        let e : n ≡ k = omega (arith, l.counted) in
        let z : w < weight n = rw (weight_power n i.most) i.inside in
        rw (lt-ltb w (weight n) z)
        (made n 4 (e ∙ column-all h) (beyond-none f (situation_at n w) n (rw (situation_at-length n w) (omega arith))))

-- any number
pub weight-numbered : (n w : ℕ) → w < weight n → Numbered n w
weight-numbered n w l = go (ltb 6 n) refl
  where
    go : (t : Bool) → ltb 6 n ≡ t → Numbered n w
    go true e = absurd (let z : w < 0 = rw e at l in omega arith)
    go false e = record { most = ltb-false 6 n e; inside = rw e at l }

pub ruleset column_laws = (column-more, step-found, step-none)
