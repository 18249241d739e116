-- Words for the laws of tables given back: which rows list some answers, how many these are, and arrays that answer alike.
use Rattle.std.specs.Prelude.{ℕ, ◌<◌, ◌≡◌, not, List, length}
use Rattle.answers.specs.declared.Answer.{Answer}
use Rattle.answers.specs.declared.Answer.TheVariants.{Silent}
use Rattle.situations.specs.Meaning.{fault, index}
use Rattle.base4.specs.Meaning.{situations_of}
use Rattle.rows.specs.Meaning.{Row, row}
use Rattle.formula.specs.Meaning.{is_silent, own_row}
use Rattle.counts.specs.Meaning.{count}
use Rattle.nodes.specs.Meaning.{evaluate_of}

-- "One row for every situation with an answer other than silent, in base-4 order, no wildcards": rows that list what f answers at
-- situations of n columns. Each is such a situation's own, every such situation has exactly one, and their numbers rise.
pub record Lists (f : List Answer → Answer) (n : ℕ) (rows : List Row) : Type 0 where
  pub each :
      (i : ℕ) → i < length rows → (s : List Answer) × (length s ≡ n) × (f s ≡ Silent → ⊥) × (row rows i ≡ own_row (f s) s)
  pub once :
      (s : List Answer) →
      length s ≡ n →
      (f s ≡ Silent → ⊥) →
      (i : ℕ)
      × (i < length rows)
      × (row rows i ≡ own_row (f s) s)
      × ((j : ℕ) → j < length rows → row rows j ≡ own_row (f s) s → j ≡ i)
  pub order :
      (i j : ℕ) →
      i < j →
      j < length rows →
      (s u : List Answer) →
      row rows i ≡ own_row (f s) s →
      row rows j ≡ own_row (f u) u →
      index s < index u

-- How many situations of n columns get an answer other than silent.
unfoldable pub answered : (List Answer → Answer) → ℕ → ℕ
answered f n = count (λ s. not (is_silent (f s))) (situations_of n)

-- Two arrays get the same reply at every situation of n columns.
abbrev pub Alike : List ℕ → List ℕ → ℕ → Type 0
Alike nodes others n = (s : List ℕ) → (fault s).number ≡ 0 → length s ≡ n → evaluate_of nodes s ≡ evaluate_of others s
