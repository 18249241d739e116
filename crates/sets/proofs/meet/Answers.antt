use mathlib.Core.Path.{◌∙◌}
use Rattle.std.proofs.Common.{rules}
use Rattle.answers.specs.declared.Answer.TheVariants.{Clash}
use Rattle.answers.specs.Meaning.{meet}
use Rattle.sets.specs.Meaning.{answers_in}
use Rattle.sets.proofs.Meets.{fold-meet}
use Rattle.sets.proofs.meet.Goals as goal

pub returns : goal.returns
returns c = c.fold.ensures meet (λ a b r p. search rules) ∙ fold-meet Clash (answers_in c.args.set)
