use Rattle.row_groups.proofs.Standing.{cells_tell_keys}
use Rattle.row_groups.proofs.laws.cells_tell_keys.Goals as goal

pub returns : goal.returns
returns c = cells_tell_keys
