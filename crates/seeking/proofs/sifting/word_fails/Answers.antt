use Rattle.std.proofs.Common.{rules, ◌*◌, arith}
use Rattle.std.proofs.lemmas.Iterator.{cases_from_any, YieldsList-from_range}
use Rattle.seeking.specs.Inside.{Kept}
use Rattle.seeking.proofs.WordSteps.{sifted}
use Rattle.seeking.proofs.sifting.word_fails.Goals as goal

pub returns : goal.returns
returns c =
    let p = c.args.planes.now in
    sifted p.bury p.keep c.args.n c.args.word _
    (cases_from_any _ _ _ (λ k. Unit {0}) (Kept p.bury p.keep c.args.word) c.any.ensures.ran (YieldsList-from_range 0 (2 * c.args.n) (2 * c.args.n) (cc) (omega arith))
    (λ x q k. tt)
    (λ x q k. (search rules, search rules)))
