-- What loops and private functions say. Private to this crate: nothing here has to be believed.
use Rattle.std.specs.Prelude.{ℕ, ◌≤◌, ◌≡◌, List, length, drop}
use Rattle.text.specs.Meaning.{decimal_onto, decimal}

-- the digits of a number stand at the end of 20 bytes, from a place on
pub record Spelled (n : ℕ) (digits : List ℕ) (at : ℕ) : Type 0 where
  pub size : length digits ≡ 20
  pub inside : at ≤ 20
  pub all : drop at digits ≡ decimal n

-- the last ones do, and the others are those of what is left of the number
pub record Spelling (n rest : ℕ) (digits : List ℕ) (at : ℕ) : Type 0 where
  pub size : length digits ≡ 20
  pub inside : at ≤ 20
  pub left : decimal_onto at rest (drop at digits) ≡ decimal n
