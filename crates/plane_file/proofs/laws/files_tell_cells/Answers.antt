use Rattle.plane_file.proofs.OneTable.{files_tell_cells}
use Rattle.plane_file.proofs.laws.files_tell_cells.Goals as goal

pub returns : goal.returns
returns c = files_tell_cells
