-- Which bytes give a number: digits whose number fits in 64 bits. It is then that number, and else 0.
use Prim.Native.Nat.{ℕ, ◌^◌, ◌≤◌, ◌<◌}
use mathlib.Core.Path.{◌≡◌, refl, ap}
use mathlib.Core.Logic.{◌↔◌}
use mathlib.Core.Bool.{Bool, true, false, cond, true≢false, false≢true}
use mathlib.Core.List.{List, [], ◌∷◌}
use lib.Dec.{ltb}
use lib.ListN.{length}
use borrow.Author.Tests.{lt-ltb, le-ltb, ltb-true, ltb-false}
use native.Mathlib.Omega.{arith}
use Rattle.std.specs.Prelude.{Option, Some, None, is_some}
use Rattle.decimals.specs.Meaning.{onto, read_onto, number_in, Digits, value_onto, value_of}

-- more digits make no number less
value-least : (n : ℕ) (s : List ℕ) → n ≤ value_onto n s
unfolding value_onto
value-least n [] = omega arith
value-least n (b ∷ bs) = omega (arith, value-least (onto n b) bs)

digits_read : (n : ℕ) (s : List ℕ) → Digits s → value_onto n s < 2 ^ 64 → read_onto n s ≡ Some (value_onto n s)
unfolding read_onto value_onto
digits_read n [] d l = refl
digits_read n (b ∷ bs) d l =
    rw (le-ltb b 48 d.0, le-ltb 57 b d.1, lt-ltb (onto n b) (2 ^ 64) (omega (arith, l, value-least (onto n b) bs)))
    (digits_read (onto n b) bs d.2 l)

-- where a number is given, each byte passed its tests
passed : (x y z : Bool) (r : Option ℕ) → is_some (cond x None (cond y None (cond z r None))) ≡ true →
    (x ≡ false) × (y ≡ false) × (z ≡ true) × (is_some r ≡ true)
passed true y z r g = absurd (false≢true g)
passed false true z r g = absurd (false≢true g)
passed false false true r g = (refl, refl, refl, g)
passed false false false r g = absurd (false≢true g)

read_digits : (n : ℕ) (s : List ℕ) → n < 2 ^ 64 → is_some (read_onto n s) ≡ true → Digits s × (value_onto n s < 2 ^ 64)
unfolding read_onto value_onto
read_digits n [] l g = (tt, l)
read_digits n (b ∷ bs) l g =
    let p = passed (ltb b 48) (ltb 57 b) (ltb (onto n b) (2 ^ 64)) (read_onto (onto n b) bs) g in
    let rest = read_digits (onto n b) bs (ltb-true (onto n b) (2 ^ 64) p.2) p.3 in
    ((ltb-false b 48 p.0, ltb-false 57 b p.1, rest.0), rest.1)

pub given_exactly : (s : List ℕ) → (is_some (number_in s) ≡ true) ↔ ((1 ≤ length s) × Digits s × (value_of s < 2 ^ 64))
given_exactly [] = (λ g. absurd (false≢true g), λ h. absurd (omega (arith, h.0)))
given_exactly (b ∷ bs) = (
  λ g. let d = read_digits 0 (b ∷ bs) (omega arith) g in (omega arith, d.0, d.1),
  λ h. ap (λ (r : Option ℕ). is_some r) (digits_read 0 (b ∷ bs) h.1 h.2),
)

pub given-value : (s : List ℕ) → is_some (number_in s) ≡ true → number_in s ≡ Some (value_of s)
given-value [] g = absurd (false≢true g)
given-value (b ∷ bs) g =
    let h = (given_exactly (b ∷ bs)).0 g in
    digits_read 0 (b ∷ bs) h.1 h.2

-- where none is given, the number is 0
stopped : (x y z : Bool) (r : Option ℕ) → (is_some r ≡ false → r ≡ None) → is_some (cond x None (cond y None (cond z r None))) ≡ false →
    cond x None (cond y None (cond z r None)) ≡ None
stopped true y z r h g = refl
stopped false true z r h g = refl
stopped false false true r h g = h g
stopped false false false r h g = refl

read_none : (n : ℕ) (s : List ℕ) → is_some (read_onto n s) ≡ false → read_onto n s ≡ None
unfolding read_onto
read_none n [] g = absurd (true≢false g)
read_none n (b ∷ bs) g =
    stopped (ltb b 48) (ltb 57 b) (ltb (onto n b) (2 ^ 64)) (read_onto (onto n b) bs) (read_none (onto n b) bs) g

pub given-none : (s : List ℕ) → is_some (number_in s) ≡ false → number_in s ≡ None
given-none [] g = refl
given-none (b ∷ bs) g = read_none 0 (b ∷ bs) g
