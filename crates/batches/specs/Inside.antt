-- What a loop says. Private to this crate: nothing here has to be believed.
use Rattle.std.specs.Prelude.{ℕ, ◌≤◌, ◌≡◌, Bool, List, length, drop}
use Rattle.batches.specs.Meaning.{read_rest, walked_by, walk_of}

-- the walk has passed so many bytes, and what it says of the rest is what is to be said of the whole
pub record Walking (ended : Bool) (part : List ℕ) (all left passed : ℕ) : Type 0 where
  pub inside : passed ≤ length part
  pub rest : walked_by left (read_rest ended left passed (drop passed part)) ≡ walk_of ended all part
