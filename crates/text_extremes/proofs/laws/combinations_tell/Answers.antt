use Rattle.text_extremes.proofs.ManyParts.{combinations_tell}
use Rattle.text_extremes.proofs.laws.combinations_tell.Goals as goal

pub returns : goal.returns
returns c = combinations_tell
