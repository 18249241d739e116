use Rattle.std.proofs.Common.{rules}
use Rattle.selectors.proofs.Silence.{silent_here, not_silent}
use Rattle.selectors.proofs.Whole.{silent_written, whole-within, selector-counted, selector-written}
use Rattle.selectors.proofs.put_selector.Goals as goal

pub returns-then-eq : goal.returns-then-eq
returns-then-eq c = search (rules, silent_written, silent_here)

pub returns-then-nodes-end : goal.returns-then-nodes-end
returns-then-nodes-end c = search (rules, selector-counted, not_silent)

pub put_whole-requires : goal.put_whole-requires
put_whole-requires c = search (rules, whole-within, not_silent)

pub returns : goal.returns
returns c = search (rules, selector-written, not_silent)
