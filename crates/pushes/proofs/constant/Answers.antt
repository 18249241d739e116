use mathlib.Core.Path.{◌≡◌}
use Rattle.std.proofs.Common.{rules}
use Rattle.pushes.proofs.Laying.{laid_placed, constant_is}
use Rattle.pushes.proofs.constant.Goals as goal

pub returns : goal.returns
returns c =
    laid_placed _ _ _
    (λ k x r l m h. let e : r ≡ c.digit-alike.result = search rules in rw e (constant_is c.args.a k x m (search rules)))
    c.lay.ensures
