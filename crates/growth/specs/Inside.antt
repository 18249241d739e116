-- What the laws of the check say among themselves. Nothing here has to be believed: they tie it to the meaning.
use Rattle.std.specs.Prelude.{ℕ, cond, ltb}
use Rattle.refusals.specs.Meaning.{none}
use Rattle.situations.specs.Meaning.{weight, situation_at, by_value}
use Rattle.steps.specs.Meaning.{Step}
use Rattle.growth.specs.Meaning.{Growth, without}

-- a no shows a step
abbrev pub shown_of : ℕ → Step → Growth
shown_of n step =
    record {
      refusal = none;
      verdict = 2;
      situation = by_value (situation_at n step.number);
      column = step.column;
      answer = step.answer;
    }

-- what a step of n columns makes of the check
unfoldable pub reply_of : ℕ → Step → Growth
reply_of n step = cond (ltb step.number (weight n)) (shown_of n step) (without none 1)
