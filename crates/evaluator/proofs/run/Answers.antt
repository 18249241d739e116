use mathlib.Core.Path.{◌≡◌}
use Rattle.std.proofs.Common.{rules}
use Rattle.std.specs.Prelude.{Ok, Err}
use Rattle.refusals.specs.Meaning.{refusal_at}
use Rattle.running.proofs.Placed.{placed-ok, placed-err}
use Rattle.evaluator.proofs.Evaluation.{clear_within, running_more, running_stopped}
use Rattle.evaluator.proofs.run.Goals as goal

pub returns-in_err-height : goal.returns-in_err-height
returns-in_err-height c =
    let p = placed-err c.map_err.result _ c.climb-climbed.result c.map_err.ensures.cases c.in_err-height.was in
    let e : c.climb-climbed.result ≡ Err p.0 = p.1 in
    let k = p.2 in
    let f : c.in_err-height.field-0.0 ≡ refusal_at p.0 c.loop-i.i = search rules in
    let j : c.from_residual.result ≡ Err c.in_err-height.field-0.0 = search rules in
    running_stopped _ _ _ _ _ c.full.ensures c.climb-climbed.ensures _ _ c.loop-i.invariant c.loop-i-test.true c.from-node.ensures _ _ _ e f j

pub act-stack-requires : goal.act-stack-requires
act-stack-requires c =
    let q : c.climb-climbed.result ≡ Ok c.in_ok-height.height = placed-ok c.map_err.result _ c.climb-climbed.result c.map_err.ensures.cases c.in_ok-height.was in
    search (rules, clear_within)

pub loop-i-preserved : goal.loop-i-preserved
loop-i-preserved c =
    let q : c.climb-climbed.result ≡ Ok c.in_ok-height.height = placed-ok c.map_err.result _ c.climb-climbed.result c.map_err.ensures.cases c.in_ok-height.was in
    search (rules, running_more)
