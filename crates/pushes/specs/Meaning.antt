-- The answers that a push lays into a place of a stack of words.
use Rattle.std.specs.Prelude.{ℕ, ◌+◌, ◌*◌, ◌%◌, cond, ltb}
use Rattle.answers.specs.Meaning.{from_number}
use Rattle.answers.specs.declared.Answer.{Answer}
use Rattle.situations.specs.Meaning.{digit}
use Rattle.nodes.specs.Inside.{turned_by}

-- A constant has its answer in lane x of word k.
unfoldable pub everywhere : Answer → ℕ → ℕ → Answer
everywhere a k x = a

-- A column has a digit of the situation's number there, turned so many times. Four passes have sixteen words each, and a
-- word has 64 situations. The sixth digit is the last.
unfoldable pub column_of : ℕ → ℕ → ℕ → ℕ → ℕ → Answer
column_of pass e turns k x = turned_by turns (from_number (digit ((pass % 4 * 16 + k) * 64 + x) (cond (ltb e 5) e 5)))
