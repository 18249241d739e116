use Rattle.answers.proofs.operators.apply_two.Goals as goal

pub returns-in-Meet : goal.returns-in-Meet
returns-in-Meet c = rw (c.meet.ensures, c.in-Meet.is)

pub returns-in-Join : goal.returns-in-Join
returns-in-Join c = rw (c.join.ensures, c.in-Join.is)

pub returns-in-TruthMeet : goal.returns-in-TruthMeet
returns-in-TruthMeet c = rw (c.truth_meet.ensures, c.in-TruthMeet.is)

pub returns-in-TruthJoin : goal.returns-in-TruthJoin
returns-in-TruthJoin c = rw (c.truth_join.ensures, c.in-TruthJoin.is)

pub returns-in-Implication : goal.returns-in-Implication
returns-in-Implication c = rw (c.implication.ensures, c.in-Implication.is)

pub returns-in-Guard : goal.returns-in-Guard
returns-in-Guard c = rw (c.guard.ensures, c.in-Guard.is)

pub returns-in-Priority : goal.returns-in-Priority
returns-in-Priority c = rw (c.priority.ensures, c.in-Priority.is)

pub returns-in-Replace : goal.returns-in-Replace
returns-in-Replace c = rw (c.replace.ensures, c.in-Replace.is)
