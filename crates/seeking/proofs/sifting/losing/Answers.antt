use Rattle.seeking.proofs.WordSteps.{tried_within, to_inside, to_times, tried_beyond}
use Rattle.std.proofs.Common.{rules}
use Rattle.seeking.proofs.sifting.losing.Goals as goal

pub returns-then-k-lt6 : goal.returns-then-k-lt6
returns-then-k-lt6 c = search (rules, tried_within)

pub offset_bounds-words-to : goal.offset_bounds-words-to
offset_bounds-words-to c = search (rules, to_times)

pub bounds-words-to : goal.bounds-words-to
bounds-words-to c = search (rules, to_inside)

pub returns : goal.returns
returns c = search (rules, tried_beyond)
