-- The bound, and the line's end.
use Rattle.outer_world.proofs.Writes.{writes_both}
use Rattle.daq_report.specs.Intervals.{bound_text}
use Rattle.daq_report.proofs.extras.write_bound_end.Goals as goal

pub returns : goal.returns
returns g c = writes_both _ _ _ _ _ (bound_text c.args.head.now c.args.query.now c.args.face c.args.bound.now) _ c.in_ok-write_bound.ensures c.write_whole.ensures
