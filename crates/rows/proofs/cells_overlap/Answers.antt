use Rattle.std.proofs.Common.{rules, ◌∙◌}
use borrow.Author.Tests.{tests}
use Rattle.std.proofs.lemmas.Iterator.{YieldsList-from_slice, YieldsList-from_zip}
use Rattle.std.proofs.lemmas.Iterator.Search.{all_from_yields_List}
use Rattle.rows.specs.Meaning.{cell_of, cells_share}
use Rattle.rows.proofs.Comparison.{list_all-overlap}
use Rattle.rows.proofs.cells_overlap.Goals as goal

pub returns : goal.returns
returns c =
    all_from_yields_List (λ x. cells_share (cell_of x.0) (cell_of x.1)) c.all.new.self _ _ c.all.ensures.ran
    (YieldsList-from_zip (YieldsList-from_slice c.args.p.now (cc)) (YieldsList-from_slice c.args.q.now (cc)))
    (λ x b q k. search (rules, tests))
    ∙ list_all-overlap _ _
