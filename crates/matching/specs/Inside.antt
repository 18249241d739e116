-- What the loops say. Nothing here has to be believed.
use Rattle.std.specs.Prelude.{ℕ, ◌-◌, ◌≤◌, ◌≡◌, List}
use Rattle.answers.specs.declared.Answer.{Answer}
use Rattle.rows.specs.Meaning.{row_count, rows_of, rows_in}
use Rattle.matching.specs.Meaning.{matched}

-- i rows are not
pub record MatchingRows (n : ℕ) (rows : List ℕ) (s : List Answer) (i : ℕ) : Type 0 where
  pub inside : i ≤ row_count n rows
  pub rest : matched (rows_of n rows i (row_count n rows - i)) s ≡ matched (rows_in n rows) s
