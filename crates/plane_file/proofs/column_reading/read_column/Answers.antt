use Rattle.plane_file.proofs.ColumnSteps.{cells_read}
use Rattle.plane_file.proofs.column_reading.read_column.Goals as goal

pub returns-clause-read : goal.returns-clause-read
returns-clause-read g c =
    cells_read c.args.file.now.head c.args.column (g.P.Store.state c.args.store.now) (g.P.Store.state c.read_known.new.store) c.in_ok-known.known c.in_ok-numbers_of.field-0.items c.in_ok-marks_of.field-0.items
    c.in_ok-known.ensures.read c.in_ok-numbers_of.ensures c.in_ok-marks_of.ensures
