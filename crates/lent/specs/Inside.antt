-- Writing into a lent buffer, as the functions that write say it among themselves. Nothing here has to be believed: what a
-- public function promises is said with the bytes themselves.
use Rattle.std.specs.Prelude.{ℕ, ◌+◌, ◌≤◌, ◌≡◌, List, length}
use Rattle.std.proofs.lemmas.List.Edits.{sets}

-- some bytes stand from a place on, if there is room for them, and the next place is behind them
pub record Wrote (old : List ℕ) (at : ℕ) (xs new : List ℕ) (next : ℕ) : Type 0 where
  pub ends : next ≡ at + length xs
  pub holds : next ≤ length old → new ≡ sets old at xs
  pub long : length new ≡ length old

-- what is left to write from here makes the whole
pub record Writing (old : List ℕ) (at : ℕ) (whole new : List ℕ) (next : ℕ) (rest : List ℕ) : Type 0 where
  pub ends : next + length rest ≡ at + length whole
  pub holds : at + length whole ≤ length old → sets new next rest ≡ sets old at whole
  pub long : length new ≡ length old
