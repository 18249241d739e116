use Rattle.situations.proofs.Replies.{merge-refused, merge-short, merge-joined}
use Rattle.std.proofs.Common.{rules}
use Rattle.situations.proofs.Situation.merge.Goals as goal

pub returns-in-Err : goal.returns-in-Err
returns-in-Err c = search (rules, merge-refused)

pub joined-requires : goal.joined-requires
joined-requires c = search (rules, merge-short)

pub returns-in-Ok : goal.returns-in-Ok
returns-in-Ok c = search (rules, merge-joined)
