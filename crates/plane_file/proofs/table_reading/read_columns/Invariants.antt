-- What holds as the columns of a table are read: those so far were.
use Rattle.std.proofs.Common.{◌≡◌, length, map, vec_items}
use Rattle.outer_world.specs.Whole.{HoldsSame}
use Rattle.plane_file.specs.ColumnReading.{ReadsFirst}
use Rattle.plane_file.proofs.table_reading.read_columns.Given as goal

abbrev pub invariant-loop-column : goal.invariant-loop-column
invariant-loop-column g l = record {
  rows : length l.plane ≡ l.file.head.rows;
  same : HoldsSame (g.P.Store.state l.initial.store) (g.P.Store.state l.store);
  so_far : ReadsFirst l.file.head l.column (g.P.Store.state l.initial.store) (g.P.Store.state l.store) (map vec_items l.numbers.items) (map vec_items l.nulls.items);
}
