use Rattle.std.proofs.Common.{rules}
use Rattle.selectors.proofs.Whole.{first-within, second_few_turns, second-within, ending-within, whole-written}
use Rattle.selectors.proofs.put_whole.Goals as goal

pub put_turned-middle-requires : goal.put_turned-middle-requires
put_turned-middle-requires c = search (rules, first-within)

pub put_turned-last-requires : goal.put_turned-last-requires
put_turned-last-requires c = search (rules, second_few_turns, second-within)

pub put_ending-requires : goal.put_ending-requires
put_ending-requires c =
    let first = c.put_turned-middle.ensures in
    ending-within _ _ _ first c.second_turns.ensures c.put_turned-last.ensures (search rules)

pub returns : goal.returns
returns c =
    let first = c.put_turned-middle.ensures in
    let second = c.put_turned-last.ensures in
    whole-written _ _ _ first c.second_turns.ensures second c.put_ending.ensures
