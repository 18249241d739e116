use Rattle.std.proofs.Common.{rules}
use Rattle.text.proofs.Decimals.{refusal_wrote}
use Rattle.text.proofs.pages.Page.refused.Goals as goal

pub returns : goal.returns
returns c = rw (← c.three.view_is) (search (rules, refusal_wrote))
