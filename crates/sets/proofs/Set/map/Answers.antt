use mathlib.Core.Path.{ap, ◌∙◌}
use Rattle.std.proofs.Common.{ℕ, [], ◌∷◌, bit_or, rules}
use Rattle.sets.specs.Meaning.{set_of, members}
use Rattle.sets.proofs.Images.{gathered, map-flat}
use Rattle.sets.proofs.Set.map.Goals as goal

pub returns : goal.returns
returns g c =
    λ k h.
    let number = g.U.Member.number in
    let set = members g.T.Member.number g.T.Member.all c.args.self in
    c.fold.ensures (λ (image : ℕ) m. bit_or image (set_of number (k m ∷ []))) (λ image m r p. search (rules, h))
    ∙ gathered number (λ m. k m ∷ []) set c.empty.ensures
    ∙ ap (set_of number) (map-flat k set)
