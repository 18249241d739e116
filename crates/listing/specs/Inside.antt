-- What the private functions and their loop say among themselves. Nothing here has to be believed: the laws tie it to the meaning.
use Rattle.std.specs.Prelude.{ℕ, ◌+◌, ◌-◌, ◌*◌, ◌/◌, ◌%◌, ◌^◌, cond, List, [], ◌++◌, ltb, length, drop, get_or}
use Rattle.lent.specs.Inside.{Writing}
use Rattle.answers.specs.Meaning.{from_number}
use Rattle.answers.specs.declared.Answer.{Answer}
use Rattle.situations.specs.Meaning.{weight}
use Rattle.base4.specs.Meaning.{situations_from}
use Rattle.rows.specs.Meaning.{row_field, row_fields}
use Rattle.formula.specs.Meaning.{is_silent, own_row}
use Rattle.listing.specs.Meaning.{listed_rows}

-- no place where a row starts passes it
abbrev pub limit : ℕ
limit = 65536

-- the bits of a word from that of a number on
abbrev pub behind : List ℕ → ℕ → ℕ
behind words w = get_or words (w / 64) 0 / 2 ^ (w % 64)

-- the answer in the lowest bits of two words
abbrev pub lowest : ℕ → ℕ → Answer
lowest low high = from_number (low % 2 + 2 * (high % 2))

-- how far it is to the next number whose bits may not be 0
abbrev pub ahead_of : ℕ → ℕ → ℕ → ℕ
ahead_of low high w = cond (ltb 1 low) 1 (cond (ltb 1 high) 1 (64 - w % 64))

-- what a situation with an answer adds
abbrev pub answer_bytes : Answer → List Answer → List ℕ
answer_bytes a s = cond (is_silent a) [] (row_field (own_row a s))

-- the rows of m situations from number w on
unfoldable pub listed_from : (List Answer → Answer) → ℕ → ℕ → ℕ → List ℕ
listed_from f n w m = row_fields (listed_rows f (situations_from n w m))

-- the rows of the situations before number w are written
pub record Listing (f : List Answer → Answer) (n : ℕ) (old : List ℕ) (at : ℕ) (new : List ℕ) (next w : ℕ) : Type 0 where
  pub left : Writing old at (listed_from f n 0 (weight n)) new next (listed_from f n w (weight n - w))

-- bytes at the front
abbrev pub placed : List ℕ → List ℕ → List ℕ
placed bytes lent = bytes ++ drop (length bytes) lent
