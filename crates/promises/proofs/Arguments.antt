-- Numbers given as arguments, in decimal: which bytes give one, and which it is. Over all bytes.
use Prim.Native.Nat.{ℕ, ◌^◌, ◌≤◌, ◌<◌}
use mathlib.Core.Path.{◌≡◌, refl}
use mathlib.Core.Logic.{◌↔◌}
use mathlib.Core.Bool.{true, false}
use mathlib.Core.List.{List, [], ◌∷◌}
use lib.ListN.{length}
use Rattle.text.specs.Meaning.{decimal}
use Rattle.std.specs.Prelude.{Some, None, is_some}
use Rattle.decimals.specs.Meaning.{read_onto, number_in, Digits, value_of}
use Rattle.decimals.proofs.Values as values
use Rattle.decimals.proofs.Printed as printed

-- Bytes give a number exactly when there is at least one, all are digits, and the number that they are fits in 64 bits.
pub number_given_exactly : (s : List ℕ) → (is_some (number_in s) ≡ true) ↔ ((1 ≤ length s) × Digits s × (value_of s < 2 ^ 64))
number_given_exactly = values.given_exactly

-- It is then that number, and nothing where none is given.
pub number-given : (s : List ℕ) → is_some (number_in s) ≡ true → number_in s ≡ Some (value_of s)
number-given = values.given-value

pub number_not_given : (s : List ℕ) → is_some (number_in s) ≡ false → number_in s ≡ None
number_not_given = values.given-none

-- Every number of 64 bits is given by its digits as programs print them.
pub printed_number_given : (n : ℕ) → n < 2 ^ 64 → number_in (decimal n) ≡ Some n
printed_number_given = printed.number-decimal

-- "6" and "06" give 6; "6 " and "-6" give none.
pub six_given :
    (number_in (54 ∷ []) ≡ Some 6)
    × (number_in (48 ∷ 54 ∷ []) ≡ Some 6)
    × (number_in (54 ∷ 32 ∷ []) ≡ None)
    × (number_in (45 ∷ 54 ∷ []) ≡ None)
unfolding read_onto
six_given = (refl, refl, refl, refl)
