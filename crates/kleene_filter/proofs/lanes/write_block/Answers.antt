use Rattle.kleene_filter.proofs.BlockBits.{rows_put}
use Rattle.kleene_filter.proofs.lanes.write_block.Goals as goal

pub returns : goal.returns
returns c = rows_put c.args.mask.now c.set_block.new.self c.args.rows.now c.args.block c.requires c.told-rows c.set_block.ensures
