use Rattle.std.proofs.Common.{◌≡◌, take}
use Rattle.daq_table.specs.Schemas.{columns_in, kept_places}
use Rattle.daq_table.proofs.kept_columns.kept_columns.Given as goal

abbrev pub invariant-loop-place : goal.invariant-loop-place
invariant-loop-place l = record {
  columns : l.columns.items ≡ columns_in (take l.place l.items);
  places : l.places.items ≡ kept_places (take l.place l.items);
}
