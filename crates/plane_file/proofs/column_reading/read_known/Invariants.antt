-- What holds as the planes of a column are read: those so far were.
use Rattle.std.proofs.Common.{◌≡◌, length}
use Rattle.outer_world.specs.Whole.{HoldsSame}
use Rattle.plane_file.specs.ColumnReading.{ReadsPlanes}
use Rattle.plane_file.proofs.column_reading.read_known.Given as goal

abbrev pub invariant-loop-number : goal.invariant-loop-number
invariant-loop-number g l = record {
  rows : length l.plane ≡ length l.initial.plane;
  same : HoldsSame (g.P.Store.state l.initial.store) (g.P.Store.state l.store);
  so_far : ReadsPlanes l.file.head l.column l.number (g.P.Store.state l.initial.store) (g.P.Store.state l.store) l.known;
}
