-- The ends, and then that there may be none.
use Rattle.outer_world.proofs.Writes.{writes_both}
use Rattle.daq_report.specs.Ends.{text_of_span}
use Rattle.daq_report.proofs.keys.write_span_or_null.Goals as goal

pub returns : goal.returns
returns g c = writes_both _ _ _ _ _ (text_of_span c.args.ends.now) _ c.in_ok-write_span.ensures c.write_whole.ensures
