use mathlib.Core.Path.{ap, ◌∙◌}
use Rattle.std.proofs.Common.{ℕ, bit_or, rules}
use Rattle.answers.specs.Meaning.{number}
use Rattle.sets.specs.Meaning.{answer_set, answers_in}
use Rattle.sets.proofs.Images.{gathered}
use Rattle.truths.specs.Meaning.{truths_in}
use Rattle.truths.proofs.Truths.{said_or_silent, whenever-flat}
use Rattle.truths.proofs.when_held.Goals as goal

pub returns : goal.returns
returns c =
    let ts = truths_in c.args.test in
    let ps = answers_in c.args.policy in
    c.fold.ensures (λ (image : ℕ) t. bit_or image (answer_set (said_or_silent ps t))) (λ image t r p. search rules)
    ∙ gathered number (said_or_silent ps) ts c.empty.ensures
    ∙ ap answer_set (whenever-flat ts ps)
