-- What the loops say: a situation spelled column by column, and read answer by answer.
use Rattle.std.specs.Prelude.{ℕ, ◌-◌, ◌^◌, ◌≤◌, ◌<◌, ◌≡◌, List, length, get_or, take, drop}
use Rattle.answers.specs.Meaning.{number}
use Rattle.answers.specs.declared.Answer.{Answer}
use Rattle.answers.specs.declared.Answer.TheVariants.{Silent}
use Rattle.situations.specs.Meaning.{answers_of, index_onto, index}

-- the first i of six bytes are those of a situation by value
pub record Spelling (s : List Answer) (answers : List ℕ) (i : ℕ) : Type 0 where
  pub size : length answers ≡ 6
  pub counted : i ≤ 6
  pub done : (k : ℕ) → k < i → get_or answers k 0 ≡ number (get_or s k Silent)

-- i answers are read, and w is their number
pub record Indexing (s : List ℕ) (w i : ℕ) : Type 0 where
  pub inside : i ≤ length s
  pub counted : i ≤ 6
  pub small : w < 4 ^ i
  pub rest : index_onto w (answers_of (take (6 - i) (drop i s))) ≡ index (answers_of (take 6 s))
