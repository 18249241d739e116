-- Numbers in decimal: which bytes give one, and which it is.
use Rattle.std.specs.Prelude.{ℕ, ◌+◌, ◌-◌, ◌*◌, ◌^◌, ◌≤◌, cond, List, [], ◌∷◌, ltb, Option, Some, None}

-- A number with one more digit behind it. The digits 0 to 9 are the bytes 48 to 57.
abbrev pub onto : ℕ → ℕ → ℕ
onto n digit = n * 10 + (digit - 48)

-- Bytes behind the digits of a number. A byte that is no digit, or a number of more than 64 bits, gives none.
unfoldable pub read_onto : ℕ → List ℕ → Option ℕ
read_onto n [] = Some n
read_onto n (b ∷ bs) =
    cond (ltb b 48) None (cond (ltb 57 b) None (cond (ltb (onto n b) (2 ^ 64)) (read_onto (onto n b) bs) None))

-- What bytes give: none where there are none.
abbrev pub number_in : List ℕ → Option ℕ
number_in [] = None
number_in (b ∷ bs) = read_onto 0 (b ∷ bs)

-- All bytes are digits.
abbrev pub Digits : List ℕ → Type 0
Digits [] = Unit
Digits (b ∷ bs) = (48 ≤ b) × (b ≤ 57) × Digits bs

-- The number that digits are, however large it is.
unfoldable pub value_onto : ℕ → List ℕ → ℕ
value_onto n [] = n
value_onto n (b ∷ bs) = value_onto (onto n b) bs

abbrev pub value_of : List ℕ → ℕ
value_of s = value_onto 0 s
