use Rattle.std.proofs.Common.{[], take}
use Rattle.csv_load.specs.States.{AreStates}
use Rattle.csv_load.proofs.reading.empty_columns.Given as goal

abbrev pub invariant-loop-column : goal.invariant-loop-column
invariant-loop-column l = AreStates (take l.column-index l.schema) [] l.columns.items
