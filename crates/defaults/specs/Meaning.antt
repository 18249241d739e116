-- A table's default: what it is, its field, and how the part of a table behind its columns field is read for one.
use Rattle.std.specs.Prelude.{ℕ, Bool, cond, List, [], ◌∷◌, ltb, eqb, get_or}
use Rattle.refusals.specs.Meaning.{Numbers, none, refused, SHORT, LEN, VALUE}
use Rattle.fields.specs.Meaning.{field, tag, short_header, short_value}
use Rattle.answers.specs.Meaning.{number, from_number}
use Rattle.answers.specs.declared.Answer.{Answer}
use Rattle.answers.specs.declared.Answer.TheVariants.{Silent}
use Rattle.faults.specs.Meaning.{other_length}

-- "The table gains an optional field." One that says silent is another table than one without the field, and answers alike.
pub data Default : Type 0 where
  unwritten : Default
  written : Answer → Default

-- "Without it the default is silent."
abbrev pub default_answer : Default → Answer
default_answer unwritten = Silent
default_answer (written d) = d

-- Its bytes: "tag 3, length 1, an answer".
abbrev pub default_field : Default → List ℕ
default_field unwritten = []
default_field (written d) = field 3 (number d ∷ [])

-- "Directly after the columns": the part behind the columns field starts with a default exactly when its tag is 3.
abbrev pub has_default : List ℕ → Bool
has_default part = eqb (tag part) 3

-- How many bytes it takes there.
abbrev pub default_size : List ℕ → ℕ
default_size part = cond (has_default part) 4 0

abbrev pub default_in : List ℕ → Default
default_in part = cond (has_default part) (written (from_number (get_or part 3 0))) unwritten

-- The faults of a default in the order of document 01, with its offset 4: "a length other than 1 is LEN, a value above 3 is VALUE."
unfoldable pub default_fault : List ℕ → Numbers
default_fault part =
    cond (has_default part)
    (cond (short_header part) (refused SHORT 4)
    (cond (other_length 1 part) (refused LEN 4)
    (cond (short_value 1 part) (refused SHORT 4)
    (cond (ltb 3 (get_or part 3 0)) (refused VALUE 7) none))))
    none
