-- The number of a number's members is what its four low bits are.
use Prim.Native.Nat.{ℕ, ◌+◌, ◌*◌, ◌%◌, ◌<◌}
use mathlib.Core.Path.{◌≡◌, refl, ◌∙◌}
use mathlib.Core.Bool.{cond}
use mathlib.Core.List.{List, [], ◌∷◌, ◌++◌}
use native.Mathlib.Omega.{arith}
use lib.Dec.{eqb}
use Rattle.words.specs.Meaning.{bit}
use Rattle.words.proofs.Bits.{Both, either, bit-small}
use Rattle.answers.specs.declared.Answer.{Answer}
use Rattle.answers.specs.declared.Answer.TheVariants.{Silent, Bury, Keep, Clash}
use Rattle.sets.specs.Meaning.{set_of, has, answer_set, answers_in}

abbrev one : Answer → ℕ → List Answer
one a b = cond (eqb b 1) (a ∷ []) []

abbrev P : ℕ → ℕ → ℕ → ℕ → Type 0
P w x y z = answer_set (one Silent w ++ (one Bury x ++ (one Keep y ++ (one Clash z ++ [])))) ≡ w + 2 * x + 4 * y + 8 * z

of_bits : (w x y z : ℕ) → w < 2 → x < 2 → y < 2 → z < 2 → P w x y z
unfolding set_of
of_bits w x y z i j k l =
    either (P w x y)
    (either (λ y. Both (P w x y))
    (either (λ x. Both (λ y. Both (P w x y))) (either (λ w. Both (λ x. Both (λ y. Both (P w x y)))) (search refl) w i) x j) y k)
    z l

by_two : (n : ℕ) → n % 4 ≡ bit 0 n + 2 * bit 1 n
by_two n = omega arith

by_four : (n : ℕ) → n % 8 ≡ n % 4 + 4 * bit 2 n
by_four n = omega arith

by_eight : (n : ℕ) → n % 16 ≡ n % 8 + 8 * bit 3 n
by_eight n = omega arith

pub low_bits : (n : ℕ) → answer_set (answers_in n) ≡ n % 16
unfolding has
low_bits n =
    of_bits (bit 0 n) (bit 1 n) (bit 2 n) (bit 3 n) (bit-small 0 n) (bit-small 1 n) (bit-small 2 n) (bit-small 3 n)
    ∙ rw (by_eight n, by_four n, by_two n)
