-- The number of a set of one to four answers: at least 1, at most 15.
use Prim.Native.Nat.{◌^◌, ◌≤◌, ◌<◌}
use mathlib.Core.Path.{◌≡◌, refl}
use mathlib.Core.List.{List, [], ◌∷◌}
use native.Mathlib.Omega.{arith}
use lib.Bits.{or_lt, or_add_and, and_le_r}
use Rattle.answers.specs.declared.Answer.{Answer}
use Rattle.answers.specs.Meaning.{number}
use Rattle.answers.proofs.Every.{each}
use Rattle.sets.specs.Meaning.{set_of, answer_set}

-- a member's own bit
member-bit : (a : Answer) → (1 ≤ 2 ^ number a) × (2 ^ number a < 2 ^ 4)
member-bit = each (λ a. (1 ≤ 2 ^ number a) × (2 ^ number a < 2 ^ 4)) (search arith)

set_below : (s : List Answer) → answer_set s < 2 ^ 4
unfolding set_of
set_below [] = omega arith
set_below (p ∷ ps) = or_lt 4 (2 ^ number p) (answer_set ps) (member-bit p).1 (set_below ps)

pub set-most : (s : List Answer) → answer_set s ≤ 15
set-most s = omega (arith, set_below s)

pub set-some : (s : List Answer) → (s ≡ [] → ⊥) → 1 ≤ answer_set s
unfolding set_of
set-some [] h = absurd (h refl)
set-some (p ∷ ps) h =
    omega (
      arith,
      (member-bit p).0,
      or_add_and (2 ^ number p) (answer_set ps),
      and_le_r (2 ^ number p) (answer_set ps),
    )
