use Rattle.std.proofs.Common.{drop}
use Rattle.shard_groups.specs.Cuts.{AreOn}
use Rattle.shard_groups.specs.Groups.{all_keys}
use Rattle.shard_groups.specs.Lines.{AreLines, IsAscending}
use Rattle.shard_groups.proofs.Done.{AreDone}
use Rattle.shard_groups.proofs.combined.combine_groups.Given as goal

abbrev pub invariant-loop-line : goal.invariant-loop-line
invariant-loop-line l =
    AreDone l.kinds l.shards l.line-items l.cells.items l.line-index × AreLines (all_keys l.shards) l.line-items × IsAscending l.line-items
    × AreOn (drop l.line-index l.line-items) l.shards l.runs.items
