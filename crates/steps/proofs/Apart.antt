-- Results are told apart by what they say, where a step's number is that of a situation.
use Prim.Native.Nat.{ℕ, ◌<◌}
use mathlib.Core.Path.{◌≡◌, refl, sym, ap, ◌∙◌}
use mathlib.Core.Bool.{Bool, true, false, cond}
use lib.Dec.{ltb}
use native.Mathlib.Omega.{arith}
use Rattle.std.specs.Prelude.{Option, Some, None, IfSome}
use Rattle.answers.specs.Meaning.{number}
use Rattle.answers.specs.declared.Answer.{Answer}
use Rattle.answers.proofs.Claims.{number_from, number_small}
use Rattle.answers.specs.Meaning.{from_number}
use Rattle.situations.specs.Meaning.{weight}
use Rattle.steps.specs.declared.Raise.{Raise}
use Rattle.steps.specs.Meaning.{Step, no_step, step_told}

abbrev Inside : ℕ → Option Raise → Type 0
Inside n r = IfSome r (λ x. x.number < weight n)

number-apart : (a b : Answer) → number a ≡ number b → a ≡ b
number-apart a b e = sym (number_from a) ∙ ap from_number e ∙ number_from b

none-some : (n w : ℕ) (x : Raise) → x.number < weight n → step_told n w None ≡ step_told n w (Some x) → ⊥
none-some n w x l e = go (ltb w (weight n)) e
  where
    go : (t : Bool) → cond t (record { number = w; column = n; answer = 4 }) (no_step n) ≡ step_told n w (Some x) → ⊥
    go true f = let z : 4 ≡ number x.answer = ap (λ (s : Step). s.answer) f in omega (arith, z, number_small x.answer)
    go false f = let z : weight n ≡ x.number = ap (λ (s : Step). s.number) f in omega (arith, z, l)

pub step_told-apart :
    (n w : ℕ) (q r : Option Raise) → Inside n q → Inside n r → step_told n w q ≡ step_told n w r → q ≡ r
step_told-apart n w None None i j e = refl
step_told-apart n w None (Some x) i j e = absurd (none-some n w x j e)
step_told-apart n w (Some x) None i j e = absurd (none-some n w x i (sym e))
step_told-apart n w (Some x) (Some y) i j e =
    let a : x.number ≡ y.number = ap (λ (s : Step). s.number) e in
    let b : x.column ≡ y.column = ap (λ (s : Step). s.column) e in
    let c : x.answer ≡ y.answer = number-apart x.answer y.answer (ap (λ (s : Step). s.answer) e) in
    rw (a, b, c)
