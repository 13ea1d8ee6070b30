use Rattle.text_extremes.proofs.ManyParts.{combinations_contain}
use Rattle.text_extremes.proofs.laws.combinations_contain.Goals as goal

pub returns : goal.returns
returns c = combinations_contain
