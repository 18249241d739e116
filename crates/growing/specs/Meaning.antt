-- What it is for answers to grow with the claims, said of any function from situations to answers.
use Rattle.std.specs.Prelude.{ℕ, ◌<◌, ◌≡◌, List, [], ◌∷◌, T, eqb, length, set, get_or, replicate, Bool, not, ◌&&◌}
use Rattle.answers.specs.Meaning.{number, contained}
use Rattle.answers.specs.declared.Answer.{Answer}
use Rattle.situations.specs.Meaning.{merge, index, by_value, Step}
use Rattle.growth.specs.Meaning.{Growth}
use Rattle.answers.specs.declared.Answer.TheVariants.{Silent, Bury, Keep, Clash}

-- The law: what is said of two situations of n columns is contained in what is said of their merger.
pub record Grows (f : List Answer → Answer) (n : ℕ) : Type 0 where
  pub first : (s t : List Answer) → length s ≡ n → length t ≡ n → T (contained (f s) (f (merge s t)))
  pub second : (s t : List Answer) → length s ≡ n → length t ≡ n → T (contained (f t) (f (merge s t)))

-- An answer is contained in another one and is not that one.
abbrev pub strictly : Answer → Answer → Bool
strictly a b = contained a b && not (eqb (number a) (number b))

-- A step at which the answer before is not contained in the answer after.
pub record FailingStep (f : List Answer → Answer) (s : List Answer) (column : ℕ) (a : Answer) : Type 0 where
  pub step : Step s column a
  pub lost : T (contained (f s) (f (set s column a))) → ⊥

-- The claim that a step to an answer adds to the one before, and that claim alone: silent in all other columns.
abbrev pub added : Answer → Answer → Answer
added Silent a = a
added Bury a = Keep
added Keep a = Bury
added Clash a = Silent

abbrev pub alone : List Answer → ℕ → Answer → List Answer
alone s column a = set (replicate (length s) Silent) column (added (get_or s column Silent) a)

-- "Lowest situation read as a base-4 number .., then lowest column, then lowest new answer": one step comes before another.
pub data Before (s : List Answer) (column : ℕ) (a : Answer) (t : List Answer) (other : ℕ) (b : Answer) : Type 0 where
  by_situation : index s < index t → Before s column a t other b
  by_column : s ≡ t → column < other → Before s column a t other b
  by_answer : s ≡ t → column ≡ other → number a < number b → Before s column a t other b

-- A failing step of n columns before which no other one fails.
pub record FirstFailing (f : List Answer → Answer) (n : ℕ) (s : List Answer) (column : ℕ) (a : Answer) : Type 0 where
  pub long : length s ≡ n
  pub fails : FailingStep f s column a
  pub first : (t : List Answer) (other : ℕ) (b : Answer) → length t ≡ n → Before t other b s column a → FailingStep f t other b → ⊥

-- "A no shows the first failing step": for some situation and answer a reply holds exactly their numbers, and the step from that
-- situation, at the reply's column, to that answer is the first failing one.
pub record Shows (f : List Answer → Answer) (n : ℕ) (g : Growth) : Type 0 where
  pub situation : List Answer
  pub answer : Answer
  pub told-situation : g.situation ≡ by_value situation
  pub told-answer : g.answer ≡ number answer
  pub first : FirstFailing f n situation g.column answer

-- Each of these situations has n columns.
abbrev pub Long : ℕ → List (List Answer) → Type 0
Long n [] = Unit {0}
Long n (t ∷ more) = (length t ≡ n) × Long n more

-- Situations merged one after another.
unfoldable pub merged : List Answer → List (List Answer) → List Answer
merged s [] = s
merged s (t ∷ more) = merged (merge s t) more
