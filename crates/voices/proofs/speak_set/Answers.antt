use Rattle.std.proofs.Common.{rules}
use Rattle.voices.proofs.Spoken.{heard-done}
use Rattle.voices.proofs.speak_set.Goals as goal

pub returns : goal.returns
returns c = search (rules, heard-done, c.in_ok-set.ensures, c.in_ok-read_notice.ensures)
