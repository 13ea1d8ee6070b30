use Rattle.std.proofs.Common.{◌≡◌, length}
use Rattle.daq_table.specs.Tables.{ends_at}
use Rattle.plane_bench.specs.Planes.{table_after}
use Rattle.plane_bench.proofs.reading.read_planes.Given as goal

abbrev pub invariant-loop : goal.invariant-loop
invariant-loop l = record {
  read : l.columns ≡ table_after (ends_at l.fn.columns.frame 0) l.cells l.counter;
  rows : length l.plane ≡ length l.cells;
}
