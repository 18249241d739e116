-- A test that was read, asked of facts.
use Rattle.std.specs.Prelude.{ℕ, List}
use Rattle.notices.specs.Meaning.{Fact}
use Rattle.truths.specs.Meaning.{truth_set}
use Rattle.trees.specs.Meaning.{Test, may_hold, Read, made, and_then}

-- What a test that was read may be, of facts: a set, handed on as a number.
unfoldable pub held : List Fact → Read Test → Read ℕ
held facts x = and_then x (λ t end. made (truth_set (may_hold facts t)) end)
