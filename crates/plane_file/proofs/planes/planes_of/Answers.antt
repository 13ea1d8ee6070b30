-- What is declared of the column is what was looked up.
use Rattle.std.proofs.Common.{sym, ap, ◌∙◌}
use Rattle.daq_table.specs.Tables.{planes}
use Rattle.known_column.proofs.CutPlanes.{declared}
use Rattle.plane_file.proofs.planes.planes_of.Goals as goal

pub returns : goal.returns
returns c =
    let at = rw c.as_slice.ensures at c.index-as_slice-column.is in
    let ends = declared c.args.table.now.head c.head.result.now c.args.column c.index-as_slice-column.result c.head.ensures.head c.requires at in
    c.planes.ensures.all ∙ sym (ap planes ends)
