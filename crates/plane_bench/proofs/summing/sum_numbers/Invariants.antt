use Rattle.std.proofs.Common.{◌≡◌, ◌*◌, ◌%◌, ◌^◌, take, sum_by}
use Rattle.known_column.specs.Columns.{number_of}
use Rattle.plane_bench.proofs.summing.sum_numbers.Given as goal

abbrev pub invariant-loop-block : goal.invariant-loop-block
invariant-loop-block l = l.total ≡ sum_by (number_of l.column.ends l.column.known.read) (take (64 * l.block) l.column.known.prefixes) % 2 ^ 64
