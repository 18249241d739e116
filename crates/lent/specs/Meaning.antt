-- Bytes placed into a lent buffer, as public functions promise it.
use Rattle.std.specs.Prelude.{ℕ, ◌+◌, ◌≡◌, cond, List, ltb, length}
use Rattle.std.proofs.lemmas.List.Edits.{sets}

-- Some bytes stand from a place on if there is room for all of them, else nothing is written; the next place is behind them.
pub record WroteWhole (old : List ℕ) (at : ℕ) (xs new : List ℕ) (next : ℕ) : Type 0 where
  pub ends : next ≡ at + length xs
  pub holds : new ≡ cond (ltb (length old) (at + length xs)) old (sets old at xs)
