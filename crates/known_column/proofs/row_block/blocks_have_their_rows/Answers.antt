use Rattle.known_column.proofs.TableBlocks.{rows_there}
use Rattle.known_column.proofs.row_block.blocks_have_their_rows.Goals as goal

pub returns : goal.returns
returns c = rows_there
