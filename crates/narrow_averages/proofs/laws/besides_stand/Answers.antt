use Rattle.narrow_averages.proofs.Besides.{besides_stand}
use Rattle.narrow_averages.proofs.laws.besides_stand.Goals as goal

pub returns : goal.returns
returns c = besides_stand
