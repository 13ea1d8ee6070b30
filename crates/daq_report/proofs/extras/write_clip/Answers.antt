-- The front, and then the bound.
use Rattle.std.proofs.Common.{codes}
use Rattle.outer_world.proofs.Writes.{writes_both}
use Rattle.daq_report.specs.Extras.{front_text}
use Rattle.daq_report.proofs.extras.write_clip.Goals as goal

pub returns : goal.returns
returns g c = writes_both _ _ _ _ _ (front_text c.args.number (codes " clip ")) _ c.in_ok-write_front.ensures c.write_bound_end.ensures
