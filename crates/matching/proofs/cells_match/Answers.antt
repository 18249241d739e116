use Rattle.std.proofs.Common.{rules, ◌∙◌}
use borrow.Author.Tests.{tests}
use Rattle.std.proofs.lemmas.Iterator.{YieldsList-from_slice, YieldsList-from_zip}
use Rattle.std.proofs.lemmas.Iterator.Search.{all_from_yields_List}
use Rattle.answers.specs.Meaning.{from_number}
use Rattle.rows.specs.Meaning.{cell_of, cell_matches}
use Rattle.matching.proofs.Matches.{list_all-matches}
use Rattle.matching.proofs.cells_match.Goals as goal

pub returns : goal.returns
returns c =
    all_from_yields_List (λ x. cell_matches (cell_of x.0) (from_number x.1)) c.all.new.self _ _ c.all.ensures.ran
    (YieldsList-from_zip (YieldsList-from_slice c.args.cells.now (cc)) (YieldsList-from_slice c.args.situation.now (cc)))
    (λ x b q k. search (rules, tests))
    ∙ list_all-matches _ _ c.requires
