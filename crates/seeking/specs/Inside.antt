-- What the private functions and their loops say among themselves. Nothing here has to be believed: the laws tie it to the meaning.
use Rattle.std.specs.Prelude.{ℕ, ◌+◌, ◌*◌, ◌^◌, ◌<◌, ◌≡◌, Bool, true, false, List}
use Rattle.std.specs.Int.Bits.{bit_and, bit_or, bit_xor}
use Rattle.words.specs.Meaning.{bit}
use Rattle.steps.specs.Inside.{held, grown}

-- a search has come to a word, and none before passes the test
pub record Seeking (test : ℕ → Bool) (total word : ℕ) : Type 0 where
  pub none : (j : ℕ) → j < word * 64 → j < total → test j ≡ false

-- the lanes of a word that have 0 in bit k of their number
pub record Clear (k r : ℕ) : Type 0 where
  pub opens : (x : ℕ) → x < 64 → bit x r + bit k x ≡ 1

-- a bit that is 1 before and 0 after is lost
abbrev pub lost : ℕ → ℕ → ℕ
lost before after = bit_and before (bit_xor after 1)

-- the step that sets bit k of a lane's number loses no 1 of a word, where no lane is told
pub record Within (word k r : ℕ) : Type 0 where
  pub passed : r ≡ 0 → (x : ℕ) → x < 64 → lost (bit x word) (bit (bit_or x (2 ^ k)) word) ≡ 0

-- the step that sets bit k of a number loses no 1 of this word
pub record Tried (words : List ℕ) (word k r : ℕ) : Type 0 where
  pub passed : r ≡ 0 → (x : ℕ) → x < 64 → lost (held words (word * 64 + x)) (held words (bit_or (word * 64 + x) (2 ^ k))) ≡ 0

-- it loses no answer of this word
pub record Kept (bury keep : List ℕ) (word k : ℕ) : Type 0 where
  pub kept : (x : ℕ) → x < 64 → grown bury keep (word * 64 + x) (bit_or (word * 64 + x) (2 ^ k)) ≡ true

-- no step loses an answer of this word, where it is said not to fail
pub record Sifted (bury keep : List ℕ) (n word : ℕ) (r : Bool) : Type 0 where
  pub passed : r ≡ false → (k : ℕ) → k < 2 * n → Kept bury keep word k
