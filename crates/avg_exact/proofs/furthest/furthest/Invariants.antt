use Rattle.std.proofs.Common.{◌*◌}
use Rattle.avg_exact.specs.Blocks.{column_of, part_rows}
use Rattle.avg_exact.specs.Furthest.{IsFurthestFrom}
use Rattle.avg_exact.proofs.furthest.furthest.Given as goal

abbrev pub invariant-loop-block : goal.invariant-loop-block
invariant-loop-block l = IsFurthestFrom l.toward (column_of l.engine l.column) (part_rows l.engine l.item l.column l.part) 0 (512 * l.block) l.found
