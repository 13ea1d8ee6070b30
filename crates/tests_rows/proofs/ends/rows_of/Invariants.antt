use Rattle.std.proofs.Common.{◌≡◌, length}
use Rattle.known_column.specs.Columns.{rows_of_column}
use Rattle.tests_rows.proofs.ends.rows_of.Given as goal

abbrev pub invariant-loop-row : goal.invariant-loop-row
invariant-loop-row l = length l.mask ≡ rows_of_column l.known
