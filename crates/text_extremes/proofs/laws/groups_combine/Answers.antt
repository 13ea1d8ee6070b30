use Rattle.text_extremes.proofs.Joining.{groups_combine}
use Rattle.text_extremes.proofs.laws.groups_combine.Goals as goal

pub returns : goal.returns
returns c = groups_combine
