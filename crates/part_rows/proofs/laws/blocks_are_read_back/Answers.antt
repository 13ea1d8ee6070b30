use Rattle.part_rows.proofs.ReadBack.{blocks_are_read_back}
use Rattle.part_rows.proofs.laws.blocks_are_read_back.Goals as goal

pub returns : goal.returns
returns c = blocks_are_read_back
