use Rattle.std.proofs.Common.{take}
use Rattle.shard_groups.specs.Groups.{keys_in}
use Rattle.shard_groups.specs.Lines.{AreCovered}
use Rattle.shard_groups.proofs.merged.are_covered.Given as goal

abbrev pub invariant-loop-cell : goal.invariant-loop-cell
invariant-loop-cell l = AreCovered (keys_in (take l.cell-index l.cells)) l.lines
