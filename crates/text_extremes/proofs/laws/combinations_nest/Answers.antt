use Rattle.text_extremes.proofs.ManyParts.{combinations_nest}
use Rattle.text_extremes.proofs.laws.combinations_nest.Goals as goal

pub returns : goal.returns
returns c = combinations_nest
