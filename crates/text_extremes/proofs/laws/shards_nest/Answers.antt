use Rattle.text_extremes.proofs.Worlds.{shards_nest}
use Rattle.text_extremes.proofs.laws.shards_nest.Goals as goal

pub returns : goal.returns
returns c = shards_nest
