-- Bytes moved to the front of a buffer.
use Rattle.std.specs.Prelude.{ℕ, ◌≡◌, List, ◌++◌, length, drop}
use Rattle.std.proofs.Math.Seq.{slice}

-- The bytes between two places, as far as there are any, stand at the front, so many they are, and every byte behind is as it was.
pub record Moved (old : List ℕ) (from to : ℕ) (new : List ℕ) (count : ℕ) : Type 0 where
  pub all : count ≡ length (slice from to old)
  pub holds : new ≡ slice from to old ++ drop count old
