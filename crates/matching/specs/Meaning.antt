-- Is a situation matched by any of some rows?
use Rattle.std.specs.Prelude.{Bool, false, ◌||◌, List, [], ◌∷◌}
use Rattle.answers.specs.declared.Answer.{Answer}
use Rattle.rows.specs.Meaning.{Row, matches}

unfoldable pub matched : List Row → List Answer → Bool
matched [] s = false
matched (r ∷ rows) s = matches r.cells s || matched rows s
