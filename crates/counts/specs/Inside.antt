-- Private definitions, for the functions within this crate. Nothing here has to be believed.
use Rattle.std.specs.Prelude.{ℕ, cond, ltb, set, get_or}
use Rattle.answers.specs.declared.Answer.{Answer}
use Rattle.answers.specs.declared.Answer.TheVariants.{Silent, Bury, Keep, Clash}
use Rattle.counts.specs.declared.Counts.{Counts}
use Rattle.counts.specs.Meaning.{more}

-- one answer more
abbrev pub answered : Counts → Answer → Counts
answered c Silent =
    record {
      silent = more c.silent;
      bury = c.bury;
      keep = c.keep;
      clash = c.clash;
      refused = c.refused;
      numbers = c.numbers;
    }
answered c Bury =
    record {
      silent = c.silent;
      bury = more c.bury;
      keep = c.keep;
      clash = c.clash;
      refused = c.refused;
      numbers = c.numbers;
    }
answered c Keep =
    record {
      silent = c.silent;
      bury = c.bury;
      keep = more c.keep;
      clash = c.clash;
      refused = c.refused;
      numbers = c.numbers;
    }
answered c Clash =
    record {
      silent = c.silent;
      bury = c.bury;
      keep = c.keep;
      clash = more c.clash;
      refused = c.refused;
      numbers = c.numbers;
    }

-- one refusal more, with a number
abbrev pub tallied : Counts → ℕ → Counts
tallied c n =
    record {
      silent = c.silent;
      bury = c.bury;
      keep = c.keep;
      clash = c.clash;
      refused = more c.refused;
      numbers = cond (ltb n 32) (set c.numbers n (more (get_or c.numbers n 0))) c.numbers;
    }
