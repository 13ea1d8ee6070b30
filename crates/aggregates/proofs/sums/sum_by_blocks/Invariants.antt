use Rattle.std.proofs.Common.{◌≡◌, ◌*◌, ◌≤◌}
use Rattle.known_column.specs.Columns.{number_of}
use Rattle.aggregates.proofs.BlockSums.{sum_before}
use Rattle.aggregates.proofs.sums.sum_by_blocks.Given as goal

abbrev pub invariant-loop-block : goal.invariant-loop-block
invariant-loop-block l =
    (l.sum ≡ sum_before l.mask l.known.known.prefixes (number_of l.known.ends l.known.known.read) l.block) × (l.sum ≤ l.block * 309485009821345068724781056)
