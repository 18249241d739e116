-- The number of a situation after a step: it grows by the column's weight times the difference of the answers' numbers.
use Prim.Native.Nat.{ℕ, zero, suc, ◌+◌, ◌-◌, ◌*◌, ◌^◌, ◌<◌}
use mathlib.Core.Path.{◌≡◌, refl, ap, sym, ◌∙◌}
use mathlib.Core.List.{List, [], ◌∷◌}
use lib.ListN.{length, get_or, set, length-set}
use native.Mathlib.Nat.{pow-suc, add-mul, mul_assoc, mul_comm, zero-add}
use native.Mathlib.Omega.{arith}
use Rattle.answers.specs.Meaning.{number}
use Rattle.answers.specs.declared.Answer.{Answer}
use Rattle.answers.specs.declared.Answer.TheVariants.{Silent}
use Rattle.situations.specs.Meaning.{digit, index_onto, index, situation_at}
use Rattle.situations.proofs.Numbers.{situation_at-length, index-situation_at}
use Rattle.situations.proofs.Columns.{column-digit}

-- the highest digit stands apart
more : (v x p i : ℕ) → (v * 4 + x) * p + i ≡ v * (p * 4) + (x * p + i)
more v x p i =
    let a : (v * 4 + x) * p ≡ v * 4 * p + x * p = add-mul (v * 4) x p in
    let b : v * 4 * p ≡ v * (p * 4) = mul_assoc v 4 p ∙ ap (λ q. v * q) (mul_comm 4 p) in
    omega arith

index_onto-more : (v : ℕ) (s : List Answer) → index_onto v s ≡ v * 4 ^ length s + index s
unfolding index_onto
index_onto-more v [] = omega arith
index_onto-more v (a ∷ s) =
    index_onto-more (v * 4 + number a) s
    ∙ more v (number a) (4 ^ length s) (index s)
    ∙ (rw (pow-suc 4 (length s), zero-add (number a)) (ap (λ i. v * (4 ^ length s * 4) + i) (sym (index_onto-more (number a) s))))

pub index-cons : (a : Answer) (s : List Answer) → index (a ∷ s) ≡ number a * 4 ^ length s + index s
unfolding index_onto
index-cons a s = rw (zero-add (number a)) (index_onto-more (number a) s)

pub index-set :
    (s : List Answer) (c : ℕ) (a : Answer) →
    c < length s →
    index (set s c a) + number (get_or s c Silent) * 4 ^ (length s - 1 - c) ≡ index s + number a * 4 ^ (length s - 1 - c)
index-set [] c a l = absurd (omega arith)
index-set (x ∷ s) zero a l =
    let e : suc (length s) - 1 - 0 ≡ length s = omega arith in
    rw (e, index-cons a s, index-cons x s) (omega arith)
index-set (x ∷ s) (suc c) a l =
    let e : suc (length s) - 1 - suc c ≡ length s - 1 - c = omega arith in
    rw (e, index-cons x (set s c a), index-cons x s, length-set s c a) (omega (arith, index-set s c a (omega arith)))

-- the same of the situation with a number
module _ (n w c : ℕ) (k : c < n) (a : Answer) where
  pub index-raised :
      w < 4 ^ n → index (set (situation_at n w) c a) + digit w (n - 1 - c) * 4 ^ (n - 1 - c) ≡ w + number a * 4 ^ (n - 1 - c)
  index-raised i =
      rw (← column-digit n w c {d = digit w (n - 1 - c)} k refl, situation_at-length n w, index-situation_at n w i)
      at (index-set (situation_at n w) c a (rw (situation_at-length n w) k))
