use Rattle.text_extremes.proofs.Worlds.{shards_become_exact}
use Rattle.text_extremes.proofs.laws.shards_become_exact.Goals as goal

pub returns : goal.returns
returns c = shards_become_exact
