-- Blocks have lines.
use Rattle.sql_headline.proofs.Lined.{blocks_have}
use Rattle.sql_headline.proofs.laws.blocks_have_lines.Goals as goal

pub returns : goal.returns
returns c = blocks_have
