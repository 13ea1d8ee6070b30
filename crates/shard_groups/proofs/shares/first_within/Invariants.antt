use Rattle.std.proofs.Common.{◌≡◌, drop}
use Rattle.shard_groups.specs.Groups.{cells_within}
use Rattle.shard_groups.proofs.shares.first_within.Given as goal

abbrev pub invariant-loop-at : goal.invariant-loop-at
invariant-loop-at l = cells_within l.line (drop l.at l.cells) ≡ cells_within l.line l.cells
