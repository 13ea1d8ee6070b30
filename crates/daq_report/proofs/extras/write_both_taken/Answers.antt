-- The rows of the low end, and then those of the high end.
use Rattle.std.proofs.Common.{codes}
use Rattle.outer_world.proofs.Writes.{writes_both}
use Rattle.avg_exact.specs.ExactAverages.{exact_average_of}
use Rattle.daq_report.specs.Extras.{low_rows, taken_line}
use Rattle.daq_report.proofs.extras.write_both_taken.Goals as goal

pub returns : goal.returns
returns g c =
    let low = taken_line c.args.head.now c.args.query.now c.args.number c.args.face (codes " low takes ") (codes " at most ") (low_rows (exact_average_of c.args.exact.now)) in
    writes_both _ _ _ _ _ low _ c.in_ok-write_low_taken.ensures c.write_high_taken.ensures
