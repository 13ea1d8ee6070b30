use Rattle.std.proofs.Common.{◌≡◌, take}
use Rattle.daq_table.specs.Tables.{frame_of}
use Rattle.known_column.specs.KnownTables.{unread_columns}
use Rattle.known_column.proofs.known_columns.open_each.Given as goal

abbrev pub invariant-loop-place : goal.invariant-loop-place
invariant-loop-place l = l.columns.items ≡ unread_columns (frame_of l.head) (take l.place-index l.places)
