use Rattle.std.proofs.Common.{◌<◌}
use Rattle.vectors.proofs.calls.sum.Given as goal

abbrev pub invariant-loop-byte : goal.invariant-loop-byte
invariant-loop-byte l = l.h < 1000003
