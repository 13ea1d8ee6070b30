use Rattle.std.proofs.Common.{◌≡◌, ◌++◌, drop, map}
use Rattle.query_model.specs.Bounds.{fractions_of}
use Rattle.shard_groups.specs.Groups.{average_at, cells_within, loosened}
use Rattle.shard_groups.proofs.averages.loosened_within.Given as goal

abbrev pub invariant-loop-cell : goal.invariant-loop-cell
invariant-loop-cell l =
    map fractions_of l.bounds.items ++ map loosened (map (average_at l.item) (cells_within l.line (drop l.cell-index l.cells)))
    ≡ map loosened (map (average_at l.item) (cells_within l.line l.cells))
