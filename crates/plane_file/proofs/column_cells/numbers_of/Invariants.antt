-- What holds as numbers are gathered: those of the blocks so far are.
use Rattle.std.proofs.Common.{◌≡◌, ◌*◌, map, take}
use Rattle.known_column.specs.Columns.{number_of}
use Rattle.plane_file.proofs.column_cells.numbers_of.Given as goal

abbrev pub invariant-loop-number : goal.invariant-loop-number
invariant-loop-number l = l.numbers.items ≡ take (64 * l.number) (map (number_of l.known.ends l.known.known.read) l.known.known.prefixes)
