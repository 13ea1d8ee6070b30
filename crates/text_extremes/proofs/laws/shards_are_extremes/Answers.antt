use Rattle.text_extremes.proofs.Worlds.{shards_are_extremes}
use Rattle.text_extremes.proofs.laws.shards_are_extremes.Goals as goal

pub returns : goal.returns
returns c = shards_are_extremes
