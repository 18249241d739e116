use mathlib.Core.Path.{◌≡◌}
use Rattle.std.proofs.Common.{rules}
use Rattle.pushes.proofs.Laying.{laid_placed, column-low, column_3, column_4, column_5}
use Rattle.pushes.proofs.column.Goals as goal

pub returns-in-0-to-2 : goal.returns-in-0-to-2
returns-in-0-to-2 c =
    laid_placed _ _ _
    (λ k x r l m h.
    let e : r ≡ c.low_digit-alike.result = search rules in
    rw e (column-low c.args.pass c.args.e c.args.turns k x l m (search rules) c.low_digit-alike.ensures))
    c.lay-in-0-to-2.ensures

pub returns-in-3 : goal.returns-in-3
returns-in-3 c =
    laid_placed _ _ _
    (λ k x r l m h. column_3 c.args.pass c.args.e c.args.turns k x l m (search rules) (search rules))
    c.lay.ensures

pub returns-in-4 : goal.returns-in-4
returns-in-4 c =
    laid_placed _ _ _
    (λ k x r l m h. column_4 c.args.pass c.args.e c.args.turns k x l m (search rules) (search rules))
    c.lay-in-4.ensures

pub returns-in_default : goal.returns-in_default
returns-in_default c =
    laid_placed _ _ _
    (λ k x r l m h.
    let e : r ≡ c.digit-alike.result = search rules in
    rw e (column_5 c.args.pass c.args.e c.args.turns k x l m (search rules) c.digit-alike.ensures))
    c.lay-in_default.ensures
