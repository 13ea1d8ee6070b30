use Rattle.std.proofs.Common.{◌≡◌}
use Rattle.plane_bench.specs.Planes.{cells_of}
use Rattle.plane_bench.proofs.cells.make_cells.Given as goal

abbrev pub invariant-loop-row : goal.invariant-loop-row
invariant-loop-row l = record {
  made : l.cells.items ≡ cells_of l.row;
}
