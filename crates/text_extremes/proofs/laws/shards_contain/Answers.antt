use Rattle.text_extremes.proofs.Worlds.{shards_contain}
use Rattle.text_extremes.proofs.laws.shards_contain.Goals as goal

pub returns : goal.returns
returns c = shards_contain
