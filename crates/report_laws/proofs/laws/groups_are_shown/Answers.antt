use Rattle.report_laws.proofs.Cells.{groups_shown}
use Rattle.report_laws.proofs.laws.groups_are_shown.Goals as goal

pub returns : goal.returns
returns c = groups_shown c.illegal_cells_are_empty.ensures c.cells_tell_keys.ensures
