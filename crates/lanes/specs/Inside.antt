-- What loops over the words of a place say. Nothing here has to be believed: the laws tie it to the meaning.
use Rattle.std.specs.Prelude.{ℕ, ◌+◌, ◌≤◌, ◌<◌, ◌≡◌, List, length, get_or}

-- a word
abbrev pub Word : ℕ → Type 0
Word w = w < 18446744073709551616

-- so many words of bury and of keep from one on are the results of an operator on them, and all others are as they were
pub record OneDone (gives : ℕ → ℕ → ℕ × ℕ → Type 0) (start count : ℕ) (old new : List ℕ) : Type 0 where
  pub size : length new ≡ length old
  pub written :
      (k : ℕ) → k < count →
      Word (get_or old (start + k) 0)
      × Word (get_or old (start + k + 16) 0)
      × gives (get_or old (start + k) 0) (get_or old (start + k + 16) 0) (get_or new (start + k) 0, get_or new (start + k + 16) 0)
  pub kept :
      (j : ℕ) → (start ≤ j → start + count ≤ j) → (start + 16 ≤ j → start + 16 + count ≤ j) → get_or new j 0 ≡ get_or old j 0

-- so many words from one on are the results of an operator on them and on those of the place above, and all others are as they were
pub record TwoDone (gives : ℕ → ℕ → ℕ → Type 0) (start count : ℕ) (old new : List ℕ) : Type 0 where
  pub size : length new ≡ length old
  pub written :
      (k : ℕ) → k < count →
      Word (get_or old (start + k) 0)
      × Word (get_or old (start + k + 32) 0)
      × gives (get_or old (start + k) 0) (get_or old (start + k + 32) 0) (get_or new (start + k) 0)
  pub kept : (j : ℕ) → (start ≤ j → start + count ≤ j) → get_or new j 0 ≡ get_or old j 0

-- this of all words of a place, where the stack has so many words from its start on; where it has not, all are as they were
pub record OneBy (gives : ℕ → ℕ → ℕ × ℕ → Type 0) (start : ℕ) (old new : List ℕ) : Type 0 where
  pub done : start + 32 ≤ length old → OneDone gives start 16 old new
  pub short : length old < start + 32 → new ≡ old

pub record TwoBy (gives : ℕ → ℕ → ℕ → Type 0) (start : ℕ) (old new : List ℕ) : Type 0 where
  pub done : start + 64 ≤ length old → TwoDone gives start 32 old new
  pub short : length old < start + 64 → new ≡ old
