use Rattle.std.proofs.Common.{◌≡◌, fold, drop}
use Rattle.sets.specs.Meaning.{members, Computes2}
use Rattle.sets.proofs.Set.fold.Given as goal

abbrev pub invariant-loop-member : goal.invariant-loop-member
invariant-loop-member g l =
    goal.F-IsAlwaysCallable g l.f
    × ((k : _) → Computes2 (goal.F-post g l.f) k →
    fold k l.folded (members g.T.Member.number (drop l.member-index l.member-items) l.self) ≡
    fold k l.fn.start (members g.T.Member.number g.T.Member.all l.self))
