-- What a comparison with silent says.
use mathlib.Core.Path.{◌≡◌, refl}
use mathlib.Core.Bool.{Bool, true, false}
use denote.Enum.Bare.{sameb}
use Rattle.answers.specs.contracts.Answer.{the_type}
use Rattle.answers.specs.declared.Answer.{Answer}
use Rattle.answers.specs.declared.Answer.TheVariants.{Silent, Bury, Keep, Clash}

module _ {b : Bool} where
  pub silent_here : (j : Answer) → b ≡ sameb the_type j Silent → b ≡ true → j ≡ Silent
  silent_here Silent e h = refl
  silent_here Bury e h = cc
  silent_here Keep e h = cc
  silent_here Clash e h = cc

  pub not_silent : (j : Answer) → b ≡ sameb the_type j Silent → b ≡ false → j ≡ Silent → ⊥
  not_silent Silent e h z = cc
  not_silent Bury e h z = cc
  not_silent Keep e h z = cc
  not_silent Clash e h z = cc
