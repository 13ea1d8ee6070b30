use Rattle.std.proofs.Common.{◌≡◌, length}
use Rattle.daq_table.specs.Tables.{ends_at}
use Rattle.query_model.specs.Queries.{condition_of}
use Rattle.kleene_filter.specs.Filters.{StandsFor}
use Rattle.plane_bench.specs.Planes.{table_after}
use Rattle.plane_bench.proofs.reading.follow_planes.Given as goal

abbrev pub invariant-loop : goal.invariant-loop
invariant-loop l = record {
  read : l.columns ≡ table_after (ends_at l.fn.columns.frame 0) l.cells l.counter;
  rows : length l.plane ≡ length l.cells;
  lent : l.block.frame.columns ≡ l.columns.frame.columns;
  filter : StandsFor l.filter (condition_of l.pred) (table_after (ends_at l.fn.columns.frame 0) l.cells l.counter);
}
