use Rattle.row_groups.proofs.Standing.{others_leave_cells}
use Rattle.row_groups.proofs.laws.others_leave_cells.Goals as goal

pub returns : goal.returns
returns c = others_leave_cells
