-- What the private functions and their loops say among themselves. Nothing here has to be believed: the laws tie it to the meaning.
use Rattle.std.specs.Prelude.{ℕ, ◌-◌, ◌/◌, ◌%◌, ◌^◌, ◌≤◌, ◌<◌, ◌≡◌, Bool, List, get_or}
use Rattle.words.specs.Meaning.{bit}
use Rattle.answers.specs.Meaning.{contained}
use Rattle.planes.specs.Meaning.{lane}
use Rattle.steps.specs.Meaning.{first_from}

-- the bit of a number in a block of words
abbrev pub held : List ℕ → ℕ → ℕ
held words w = bit (w % 64) (get_or words (w / 64) 0)

-- the answer at one number is contained in the answer at another one
abbrev pub grown : List ℕ → List ℕ → ℕ → ℕ → Bool
grown bury keep one other = contained (lane bury keep one) (lane bury keep other)

-- a situation of at most 6 columns by its number, and a column of it
pub record Numbered (n w : ℕ) : Type 0 where
  pub most : n ≤ 6
  pub inside : w < 4 ^ n

pub record AtColumn (n w column : ℕ) : Type 0 where
  pub here : Numbered n w
  pub has : column < n

-- a search from one number on has come to k, and none of those passed over passes the test
pub record Looking (test : ℕ → Bool) (start last k : ℕ) : Type 0 where
  pub counted : k ≤ last
  pub rest : first_from test (last - k) k ≡ first_from test (last - start) start
