-- A policy that was read, asked of facts.
use Rattle.std.specs.Prelude.{ℕ, List}
use Rattle.notices.specs.Meaning.{Fact}
use Rattle.sets.specs.Meaning.{answer_set}
use Rattle.trees.specs.Meaning.{Policy, may_say, Read, made, and_then}

-- What a policy that was read may say, of facts: a set, handed on as a number.
unfoldable pub told : List Fact → Read Policy → Read ℕ
told facts x = and_then x (λ p end. made (answer_set (may_say facts p)) end)
