use mathlib.Core.Path.{refl}
use lib.ListN.{replicate}
use Rattle.judging.proofs.Texts.{sizes_told, nodes_inside, nodes_long, verdict_is, never_refused}
use Rattle.judging.proofs.judged.Goals as goal

pub slice_bounds-nodes-end : goal.slice_bounds-nodes-end
slice_bounds-nodes-end c = nodes_inside _ (replicate 4223 0) refl _ c.in_ok-sizes.ensures.reply _ c.compile.auto.nodes

pub slice_bounds-check_growth-end : goal.slice_bounds-check_growth-end
slice_bounds-check_growth-end c = nodes_long _ (replicate 4223 0) refl _ c.in_ok-sizes.ensures.reply _ c.compile.auto.nodes

pub returns-in_err-verdict : goal.returns-in_err-verdict
returns-in_err-verdict c = absurd (never_refused _ (replicate 4223 0) refl _ c.in_ok-sizes.ensures.reply c.in_ok-sizes.ensures.written _ c.in_err-verdict.ensures)

pub returns : goal.returns
returns c = (
  sizes_told _ (replicate 4223 0) refl _ c.in_ok-sizes.ensures.reply,
  verdict_is _ (replicate 4223 0) refl _ c.in_ok-sizes.ensures.reply c.in_ok-sizes.ensures.written c.in_ok-verdict.ensures,
)
