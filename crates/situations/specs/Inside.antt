-- What the private functions and their loops say among themselves. Nothing here has to be believed: the laws tie it to the meaning.
use Rattle.std.specs.Prelude.{ℕ, zero, suc, ◌≤◌, ◌≡◌, List, get_or, set}
use Rattle.answers.specs.Meaning.{number, from_number, join}

abbrev pub join_numbers : ℕ → ℕ → ℕ
join_numbers p q = number (join (from_number p) (from_number q))

-- the first n joined in place, one after another
unfoldable pub joined_to : ℕ → List ℕ → List ℕ → List ℕ
joined_to zero s t = s
joined_to (suc n) s t = set (joined_to n s t) n (join_numbers (get_or s n 0) (get_or t n 0))

-- i of the n answers are joined
pub record Joining (s t : List ℕ) (n : ℕ) (merged : List ℕ) (i : ℕ) : Type 0 where
  pub counted : i ≤ n
  pub so_far : merged ≡ joined_to i s t
