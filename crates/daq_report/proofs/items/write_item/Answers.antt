-- The line of the answer, and then those that are wanted besides.
use Rattle.std.proofs.Common.{◌+◌}
use Rattle.outer_world.proofs.Writes.{writes_both}
use Rattle.daq_report.specs.Items.{answer_line}
use Rattle.daq_report.proofs.items.write_item.Goals as goal

pub returns : goal.returns
returns g c = writes_both _ _ _ _ _ (answer_line c.args.head.now c.args.engine.now c.args.scope (c.args.place + 1) c.args.item.now) _ c.in_ok-write_answer_line.ensures c.write_behind.ensures
