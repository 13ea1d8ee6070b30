-- The front, and then the ends.
use Rattle.std.proofs.Common.{codes}
use Rattle.outer_world.proofs.Writes.{writes_both}
use Rattle.daq_report.specs.Extras.{front_text}
use Rattle.daq_report.proofs.extras.write_exact_ends.Goals as goal

pub returns : goal.returns
returns g c = writes_both _ _ _ _ _ (front_text c.args.number (codes " exact ")) _ c.in_ok-write_front.ensures c.write_average_end.ensures
