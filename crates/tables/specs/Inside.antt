-- What the private functions and their loops say among themselves. Nothing here has to be believed.
use Rattle.std.specs.Prelude.{ℕ, ◌+◌, ◌-◌, ◌*◌, ◌≤◌, ◌≡◌, List, drop}
use Rattle.tables.specs.Meaning.{rows_from}

-- the rows of a table from an offset on are read up to another one
pub record Reading (n start : ℕ) (t : List ℕ) (at left : ℕ) : Type 0 where
  pub narrow : n ≤ 6
  pub near : at ≤ 8 + 10 * (64 - left)
  pub few : left ≤ 64
  pub rest : rows_from left n at (drop at t) ≡ rows_from 64 n start (drop start t)
