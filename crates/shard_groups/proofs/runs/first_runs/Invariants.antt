use Rattle.std.proofs.Common.{take}
use Rattle.shard_groups.specs.Cuts.{AreOn}
use Rattle.shard_groups.proofs.runs.first_runs.Given as goal

abbrev pub invariant-loop-cells : goal.invariant-loop-cells
invariant-loop-cells l = AreOn l.lines (take l.cells-index l.shards) l.runs.items
