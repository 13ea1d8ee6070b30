use Rattle.part_rows.proofs.KeyNumbers.{columns_can_be_keyed}
use Rattle.part_rows.proofs.laws.columns_can_be_keyed.Goals as goal

pub returns : goal.returns
returns c = columns_can_be_keyed
