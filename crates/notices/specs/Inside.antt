-- Private definitions, for the functions within this crate. Nothing here has to be believed: the promises cite Meaning alone.
use Rattle.std.specs.Prelude.{ℕ, zero, suc, ◌+◌, ◌-◌, Bool, cond, List, ltb, eqb, drop}
use Rattle.fields.specs.Meaning.{two_at}
use Rattle.notices.specs.Meaning.{fault, first_fact}

-- Whether the field that the bytes start with has no fault. The place has no part in it.
unfoldable pub sound : ℕ → ℕ → List ℕ → Bool
sound left least s = eqb (fault left 0 least s).number 0

-- How many fields without a fault stand at the front.
unfoldable pub sounds : ℕ → ℕ → List ℕ → ℕ
sounds zero least s = 0
sounds (suc left) least s = cond (sound (suc left) least s) (suc (sounds left ((first_fact s).number + 1) (drop 9 s))) 0

-- The least number that the fact at an offset may have.
unfoldable pub least_at : List ℕ → ℕ → ℕ
least_at s at = cond (ltb at 9) 0 (two_at s (at - 6) + 1)
