-- What the private functions and their loops say among themselves. Nothing here has to be believed.
use Rattle.std.specs.Prelude.{ℕ, ◌≤◌, ◌≡◌, Bool}
use Rattle.refusals.specs.Meaning.{Numbers, none, first_refusal}
use Rattle.rows.specs.Meaning.{pair_fault, overlap_in}

-- no pair of rows with an earlier one below this disagrees, and none is found
pub record Below (bad : ℕ → ℕ → Bool) (later : ℕ) (found : Numbers) (earlier : ℕ) : Type 0 where
  pub inside : earlier ≤ later
  pub clear : first_refusal (pair_fault bad later) earlier ≡ none
  pub not_found : found ≡ none

-- no pair of rows with a later one below this disagrees, and none is found
pub record Pairs (bad : ℕ → ℕ → Bool) (rows : ℕ) (found : Numbers) (later : ℕ) : Type 0 where
  pub inside : later ≤ rows
  pub clear : overlap_in bad later ≡ none
  pub not_found : found ≡ none
