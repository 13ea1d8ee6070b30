-- The ends, and then that there may be no answer.
use Rattle.outer_world.proofs.Writes.{writes_both}
use Rattle.daq_report.specs.Ends.{text_of_ends}
use Rattle.daq_report.proofs.intervals.write_ends_or_null.Goals as goal

pub returns : goal.returns
returns g c = writes_both _ _ _ _ _ (text_of_ends c.args.ends.now) _ c.in_ok-write_ends.ensures c.write_whole.ensures
