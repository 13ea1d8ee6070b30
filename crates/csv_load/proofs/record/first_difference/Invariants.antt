use Rattle.std.proofs.Common.{◌≡◌, take}
use Rattle.daq_table.specs.Schemas.{item_names}
use Rattle.csv_load.proofs.record.first_difference.Given as goal

abbrev pub invariant-loop-place : goal.invariant-loop-place
invariant-loop-place l = take l.place l.header ≡ take l.place (item_names l.items)
