use Rattle.std.proofs.Common.{◌≡◌, ◌*◌, ◌%◌, ◌^◌, sum_by}
use Rattle.known_column.specs.Columns.{number_of}
use Rattle.plane_bench.proofs.summing.sum_readings.Given as goal

abbrev pub invariant-loop : goal.invariant-loop
invariant-loop l = l.total ≡ l.counter * sum_by (number_of l.column.ends l.column.known.read) l.column.known.prefixes % 2 ^ 64
