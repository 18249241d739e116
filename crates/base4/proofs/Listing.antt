-- All situations of so many columns: how many they are, and where each of them stands.
use Prim.Native.Nat.{ℕ, zero, suc, ◌+◌, ◌≤◌, ◌<◌}
use mathlib.Core.Path.{◌≡◌, refl, ap, ◌∙◌}
use mathlib.Core.List.{List, []}
use lib.ListN.{length, get_or}
use native.Mathlib.Nat.{zero-add}
use native.Mathlib.Omega.{arith}
use Rattle.answers.specs.declared.Answer.{Answer}
use Rattle.situations.specs.Meaning.{weight, index, situation_at}
use Rattle.situations.proofs.Numbers.{situation_at-index, index-small}
use Rattle.situations.proofs.Weights.{weight_power}
use Rattle.base4.specs.Meaning.{situations_from, situations_of}

pub situations_from-length : (n w m : ℕ) → length (situations_from n w m) ≡ m
unfolding situations_from
situations_from-length n w zero = refl
situations_from-length n w (suc m) = ap suc (situations_from-length n (suc w) m)

situations_from_at : (n w m i : ℕ) → i < m → get_or (situations_from n w m) i [] ≡ situation_at n (w + i)
unfolding situations_from
situations_from_at n w zero i l = absurd (omega arith)
situations_from_at n w (suc m) zero l = ap (situation_at n) (omega arith)
situations_from_at n w (suc m) (suc i) l = situations_from_at n (suc w) m i (omega arith) ∙ ap (situation_at n) (omega arith)

-- a situation stands where its number says
module _ (s : List Answer) (l : length s ≤ 6) where
  index-inside : index s < weight (length s)
  index-inside = rw (weight_power (length s) l) (index-small s)

  pub situations_of-inside : index s < length (situations_of (length s))
  situations_of-inside = rw (situations_from-length (length s) 0 (weight (length s))) index-inside

  pub situations_of_at : get_or (situations_of (length s)) (index s) [] ≡ s
  situations_of_at =
      situations_from_at (length s) 0 (weight (length s)) (index s) index-inside ∙ (rw zero-add (situation_at-index s))
