use Rattle.std.proofs.Common.{arith}
use Rattle.kleene_filter.proofs.BlockBits.{mask_row}
use Rattle.kleene_filter.proofs.lanes.read_block.Goals as goal

pub returns : goal.returns
returns c = λ row few inside. mask_row c.args.mask.now c.block.result c.args.block row c.block.ensures.rows (omega arith) few inside
