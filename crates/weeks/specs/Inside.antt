-- What a loop says. Private to this crate: nothing here has to be believed.
use Rattle.std.specs.Prelude.{ℕ, ◌≤◌, ◌≡◌, true, List, length, drop}
use Rattle.batches.specs.Meaning.{read_rest}
use Rattle.counts.specs.declared.Counts.{Counts}
use Rattle.weeks.specs.Meaning.{week_by, onto, onto_of}

-- the fields up to an offset are counted, and with the rest of them the counts are those of the whole
pub record Counting (batch voice : List ℕ) (first now : Counts) (left at : ℕ) : Type 0 where
  pub inside : at ≤ length batch
  pub rest : onto now (week_by voice (read_rest true left at (drop at batch))) ≡ onto_of first batch voice
