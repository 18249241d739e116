-- What the private functions say among themselves. Nothing here has to be believed: the laws tie it to the meaning.
use Rattle.std.specs.Prelude.{ℕ, ◌+◌, ◌%◌, ◌≤◌, ◌<◌, ◌≡◌, List, length, get_or}
use Rattle.answers.specs.Meaning.{from_number}
use Rattle.situations.specs.Meaning.{digit}
use Rattle.nodes.specs.Inside.{turned_by}
use Rattle.lanes.specs.Meaning.{pair}

-- a digit of the lane's number, turned, or the lowest digit of a number
pub record Low (e turns : ℕ) (r : ℕ × ℕ) : Type 0 where
  pub holds : (x : ℕ) → x < 64 → pair x r.0 r.1 ≡ turned_by turns (from_number (digit x e))

pub record Digit (d : ℕ) (r : ℕ × ℕ) : Type 0 where
  pub holds : (x : ℕ) → x < 64 → pair x r.0 r.1 ≡ from_number (d % 4)

-- so many words of bury and of keep from one on are given, and all others are as they were
pub record LaidSoFar (gives : ℕ → ℕ × ℕ → Type 0) (start count : ℕ) (old new : List ℕ) : Type 0 where
  pub size : length new ≡ length old
  pub written : (k : ℕ) → k < count → gives k (get_or new (start + k) 0, get_or new (start + k + 16) 0)
  pub kept :
      (j : ℕ) → (start ≤ j → start + count ≤ j) → (start + 16 ≤ j → start + 16 + count ≤ j) → get_or new j 0 ≡ get_or old j 0

-- this of all words of a place, where the stack has it; where it has not, all are as they were
pub record LaidBy (gives : ℕ → ℕ × ℕ → Type 0) (start : ℕ) (old new : List ℕ) : Type 0 where
  pub done : start + 32 ≤ length old → LaidSoFar gives start 16 old new
  pub short : length old < start + 32 → new ≡ old
