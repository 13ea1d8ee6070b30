-- What holds as marks are gathered: those of the rows so far are.
use Rattle.std.proofs.Common.{◌≡◌, map, not, take}
use Rattle.known_column.specs.Columns.{is_possible, rows_where}
use Rattle.plane_file.proofs.column_cells.marks_of.Given as goal

abbrev pub invariant-loop-row : goal.invariant-loop-row
invariant-loop-row l = l.marks.items ≡ take l.row (map not (rows_where is_possible l.known))
