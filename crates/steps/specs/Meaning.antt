-- Steps: when a step fails, and which of those that fail is the first. Which raises are steps is said in situations.
use Rattle.std.specs.Prelude.{ℕ, zero, suc, ◌^◌, Bool, cond, not, ◌&&◌, List, ltb, length, get_or, set, Option, Some, None}
use Rattle.answers.specs.Meaning.{number, from_number, contained}
use Rattle.answers.specs.declared.Answer.{Answer}
use Rattle.answers.specs.declared.Answer.TheVariants.{Silent}
use Rattle.situations.specs.Meaning.{weight, index, situation_at, raises}
use Rattle.planes.specs.Meaning.{lane}
use Rattle.steps.specs.declared.Raise.{Raise}

-- "A step raises one column": it fails where the answer before is not contained in the answer after.
abbrev pub fails : (List Answer → Answer) → List Answer → ℕ → Answer → Bool
fails f s column a = raises (get_or s column Silent) a && not (contained (f s) (f (set s column a)))

-- The first of so many numbers, from one on, that passes a test, or the number after them.
unfoldable pub first_from : (ℕ → Bool) → ℕ → ℕ → ℕ
first_from test zero k = k
first_from test (suc count) k = cond (test k) k (first_from test count (suc k))

-- "Then lowest new answer", by its number; 4 where no step at the column fails.
abbrev pub answer_fails : (List Answer → Answer) → List Answer → ℕ → ℕ → Bool
answer_fails f s column a = fails f s column (from_number a)

unfoldable pub first_answer : (List Answer → Answer) → List Answer → ℕ → ℕ
first_answer f s column = first_from (answer_fails f s column) 4 0

-- "Then lowest column"; the number of columns where no step from the situation fails.
unfoldable pub column_fails : (List Answer → Answer) → List Answer → ℕ → Bool
column_fails f s column = ltb (first_answer f s column) 4

unfoldable pub first_column : (List Answer → Answer) → List Answer → ℕ
first_column f s = first_from (column_fails f s) (length s) 0

-- "Lowest situation read as a base-4 number"; 4^n where no step fails.
unfoldable pub situation_fails : (List Answer → Answer) → ℕ → ℕ → Bool
situation_fails f n w = ltb (first_column f (situation_at n w)) n

unfoldable pub first_situation : (List Answer → Answer) → ℕ → ℕ
first_situation f n = first_from (situation_fails f n) (4 ^ n) 0

-- A step by the numbers of its situation, its column and its new answer.
pub record Step : Type 0 where
  pub number : ℕ
  pub column : ℕ
  pub answer : ℕ

-- The first failing step from the situation with a number; where none fails, its column is n and its answer 4.
abbrev pub step_at : (List Answer → Answer) → ℕ → ℕ → Step
step_at f n w =
    record {
      number = w;
      column = first_column f (situation_at n w);
      answer = first_answer f (situation_at n w) (first_column f (situation_at n w));
    }

-- No step: its number is that of no situation, 4^n, and 0 above the most columns.
abbrev pub no_step : ℕ → Step
no_step n = record { number = weight n; column = 0; answer = 0 }

-- The first failing step from a number: where it is that of no situation, there is none.
abbrev pub step_from : (List Answer → Answer) → ℕ → ℕ → Step
step_from f n w = cond (ltb w (weight n)) (step_at f n w) (no_step n)

-- The first failing step. More columns than the most have none.
unfoldable pub first_step : (List Answer → Answer) → ℕ → Step
first_step f n = step_from f n (first_situation f n)

-- What a result of the code says: the lowest new answer at a column, and the first step from a number.
abbrev pub answer_told : Option Answer → ℕ
answer_told (Some a) = number a
answer_told None = 4

abbrev pub step_told : ℕ → ℕ → Option Raise → Step
step_told n w (Some r) = record { number = r.number; column = r.column; answer = number r.answer }
step_told n w None = cond (ltb w (weight n)) (record { number = w; column = n; answer = 4 }) (no_step n)

-- What two blocks of words answer at a situation.
unfoldable pub in_words : List ℕ → List ℕ → List Answer → Answer
in_words bury keep s = lane bury keep (index s)
