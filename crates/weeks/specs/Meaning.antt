-- Weeks: what a voice gave to the notices of a batch, counted.
use Rattle.std.specs.Prelude.{ℕ, List, map}
use Rattle.refusals.specs.Meaning.{Numbers}
use Rattle.answers.specs.Meaning.{Reply}
use Rattle.voices.specs.Meaning.{speak_of}
use Rattle.batches.specs.Meaning.{Part, read_batch, why}
use Rattle.counts.specs.declared.Counts.{Counts}
use Rattle.counts.specs.Meaning.{counts_of, plus}
use Rattle.weeks.specs.declared.Week as code

-- What the voice's column receives from each notice, or why there is nothing to receive. "A refused voice counts every notice as
-- refused, under the notice's number where that is refused first."
abbrev pub replies : List ℕ → List (List ℕ) → List Reply
replies voice notices = map (λ n. speak_of n voice) notices

-- What a count of a batch replies, and the same of all that code says of one.
pub record Week : Type 0 where
  pub refusal : Numbers
  pub counts : Counts

abbrev pub counted : code.Week → Week
counted w = record { refusal = why w.refused; counts = w.counts }

-- "The counts so far are still handed back as a value, the one exception to document 01's zeros."
abbrev pub told : Numbers → Counts → Week
told r c = record { refusal = r; counts = c }

abbrev pub week_by : List ℕ → Part → Week
week_by voice p = told p.refusal (counts_of (replies voice p.notices))

abbrev pub week_of : List ℕ → List ℕ → Week
week_of batch voice = week_by voice (read_batch batch)

-- The same, onto the counts of what was counted before.
abbrev pub onto : Counts → Week → Week
onto c w = told w.refusal (plus c w.counts)

abbrev pub onto_of : Counts → List ℕ → List ℕ → Week
onto_of c batch voice = onto c (week_of batch voice)
