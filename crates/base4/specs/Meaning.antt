-- All situations of so many columns, one after another.
use Rattle.std.specs.Prelude.{ℕ, zero, suc, List, [], ◌∷◌}
use Rattle.answers.specs.declared.Answer.{Answer}
use Rattle.situations.specs.Meaning.{weight, situation_at}

-- The m situations of n columns from number w on, and all of them "in base-4 order".
unfoldable pub situations_from : ℕ → ℕ → ℕ → List (List Answer)
situations_from n w zero = []
situations_from n w (suc m) = situation_at n w ∷ situations_from n (suc w) m

abbrev pub situations_of : ℕ → List (List Answer)
situations_of n = situations_from n 0 (weight n)
