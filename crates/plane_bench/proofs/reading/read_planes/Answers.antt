-- Nothing is read at first.
use Rattle.std.proofs.Common.{false, length, ap, ◌∙◌}
use Rattle.std.proofs.lemmas.List.{length-replicate}
use Rattle.daq_table.specs.Tables.{ends_at}
use Rattle.plane_bench.proofs.Steps.{nothing_read}
use Rattle.plane_bench.proofs.reading.read_planes.Goals as goal

pub loop-init : goal.loop-init
loop-init c = record {
  read = c.requires.start ∙ nothing_read c.start_is_known.ensures (ends_at c.args.columns.frame 0) c.args.cells.now c.requires.cells;
  rows = ap length c.in_ok-plane.ensures ∙ length-replicate (length c.args.cells.now) false;
}
