use Rattle.text_extremes.proofs.Joining.{one_part_is_all}
use Rattle.text_extremes.proofs.laws.one_part_is_all.Goals as goal

pub returns : goal.returns
returns c = one_part_is_all
