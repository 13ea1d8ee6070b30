-- The bound of an average, and the line's end.
use Rattle.outer_world.proofs.Writes.{writes_both}
use Rattle.query_model.specs.Bounds.{fractions_of}
use Rattle.daq_report.specs.Intervals.{average_text}
use Rattle.daq_report.proofs.extras.write_average_end.Goals as goal

pub returns : goal.returns
returns g c = writes_both _ _ _ _ _ (average_text c.args.head.now c.args.query.now c.args.face (fractions_of c.args.bound.now)) _ c.in_ok-write_average.ensures c.write_whole.ensures
