use mathlib.Core.Path.{ap, ◌∙◌}
use Rattle.std.proofs.Common.{ℕ, bit_or, rules, map}
use Rattle.sets.specs.Meaning.{set_of, members}
use Rattle.sets.proofs.Images.{gathered, pairs-flat}
use Rattle.sets.proofs.Set.pairs.Goals as goal

pub returns : goal.returns
returns g c =
    λ k h.
    let number = g.T.Member.number in
    let first = members number g.T.Member.all c.args.self in
    let second = members number g.T.Member.all c.args.second in
    c.fold.ensures (λ (image : ℕ) m. bit_or image (set_of number (map (k m) second))) (λ image m r p. search (rules, h))
    ∙ gathered number (λ m. map (k m) second) first c.empty.ensures
    ∙ ap (set_of number) (pairs-flat k first second)
