-- The counts, and then the cut.
use Rattle.outer_world.proofs.Writes.{writes_both}
use Rattle.daq_report.specs.Extras.{count_text}
use Rattle.daq_report.proofs.extras.write_rows.Goals as goal

pub returns : goal.returns
returns g c = writes_both _ _ _ _ _ (count_text c.args.rows.taken c.args.rows.unknown) _ c.in_ok-write_counts.ensures c.write_cut.ensures
