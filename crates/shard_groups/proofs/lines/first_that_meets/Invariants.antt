use Rattle.std.proofs.Common.{take}
use Rattle.shard_groups.specs.Lines.{IsApart}
use Rattle.shard_groups.proofs.lines.first_that_meets.Given as goal

abbrev pub invariant-loop-at : goal.invariant-loop-at
invariant-loop-at l = IsApart l.line (take l.at l.lines)
