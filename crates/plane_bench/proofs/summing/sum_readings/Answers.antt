-- A reading more is summed.
use Rattle.std.proofs.Common.{sum_by}
use Rattle.known_column.specs.Columns.{number_of}
use Rattle.plane_bench.proofs.Sums.{reading_more}
use Rattle.plane_bench.proofs.summing.sum_readings.Goals as goal

pub loop-preserved : goal.loop-preserved
loop-preserved c =
    let column = c.args.column.now in
    reading_more (sum_by (number_of column.ends column.known.read) column.known.prefixes) c.loop.counter c.loop.total c.sum_numbers-total.result c.loop.invariant c.sum_numbers-total.ensures
