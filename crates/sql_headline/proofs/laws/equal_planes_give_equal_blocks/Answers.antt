-- Equal planes give equal blocks.
use Rattle.sql_headline.proofs.Same.{same_blocks}
use Rattle.sql_headline.proofs.laws.equal_planes_give_equal_blocks.Goals as goal

pub returns : goal.returns
returns c = same_blocks c.planes_tell_stages.ensures
