use mathlib.Core.Path.{◌≡◌}
use Rattle.std.proofs.Common.{rules}
use Rattle.std.specs.Prelude.{Err}
use Rattle.planes.proofs.Passes.{outside-filled, filling_none, filling_refused, filling_more, filling_all}
use Rattle.planes.proofs.fill.Goals as goal

pub returns-then-columns-lt1 : goal.returns-then-columns-lt1
returns-then-columns-lt1 c = outside-filled _ _ _ c.then-columns-lt1.either c.at.ensures

pub loop-number-init : goal.loop-number-init
loop-number-init c = filling_none _ _ c.extent_of-extent.ensures

pub returns-in_err-run : goal.returns-in_err-run
returns-in_err-run c =
    let j : c.from_residual.result ≡ Err c.in_err-run.field-0.0 = search rules in
    filling_refused _ _ _ _ c.if-columns-lt1.false c.if-columns-gt6.false c.in_err-run.ensures j

pub loop-number-preserved : goal.loop-number-preserved
loop-number-preserved c =
    filling_more _ _ _ c.loop-number.invariant c.run.array_long c.loop-number-test.true c.in_ok-run.ensures c.store.ensures c.store-in-loop-number.ensures

pub returns : goal.returns
returns c = search (rules, filling_all)
