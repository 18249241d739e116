-- What stands at a place of a stack of words: an answer in each of 64 lanes of sixteen words.
use Rattle.std.specs.Prelude.{ℕ, ◌+◌, ◌*◌, ◌≤◌, ◌<◌, ◌≡◌, List, length, get_or}
use Rattle.words.specs.Meaning.{bit}
use Rattle.answers.specs.Meaning.{from_number}
use Rattle.answers.specs.declared.Answer.{Answer}

-- The answer in a lane of two words: bury has the lower bit of its number, keep the higher.
abbrev pub pair : ℕ → ℕ → ℕ → Answer
pair x bury keep = from_number (bit x bury + 2 * bit x keep)

-- The same of a word of bury, with a number in the stack, and of its word of keep: a place has sixteen of each, bury first.
abbrev pub held : List ℕ → ℕ → ℕ → Answer
held stack j x = pair x (get_or stack j 0) (get_or stack (j + 16) 0)

-- Where the stack has so many words from one on, the place that starts there has the answers g, in lane x of word k, and
-- all other words are as they were. Where it has not, all are.
pub record Placed (g : ℕ → ℕ → Answer) (start room : ℕ) (old new : List ℕ) : Type 0 where
  pub size : length new ≡ length old
  pub written : start + room ≤ length old → (k x : ℕ) → k < 16 → x < 64 → held new (start + k) x ≡ g k x
  pub kept : (j : ℕ) → (start ≤ j → start + 32 ≤ j) → get_or new j 0 ≡ get_or old j 0
  pub short : length old < start + room → new ≡ old

-- What an operator makes of the answers of a place, or of those of a place and the one above it.
unfoldable pub one : (Answer → Answer) → List ℕ → ℕ → ℕ → ℕ → Answer
one f stack start k x = f (held stack (start + k) x)

unfoldable pub two : (Answer → Answer → Answer) → List ℕ → ℕ → ℕ → ℕ → Answer
two f stack start k x = f (held stack (start + k) x) (held stack (start + k + 32) x)
