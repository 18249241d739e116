use Rattle.std.proofs.Common.{rules}
use Rattle.text.proofs.Decimals.{number_wrote}
use Rattle.text.proofs.pages.Page.number.Goals as goal

pub returns : goal.returns
returns c = search (rules, number_wrote)
