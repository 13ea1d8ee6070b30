use Rattle.std.proofs.Common.{◌≡◌, ◌++◌, drop, take}
use Rattle.shard_groups.specs.Lines.{placed}
use Rattle.shard_groups.proofs.order.place_of.Given as goal

abbrev pub invariant-loop-at : goal.invariant-loop-at
invariant-loop-at l = take l.at l.lines ++ placed l.line (drop l.at l.lines) ≡ placed l.line l.lines
