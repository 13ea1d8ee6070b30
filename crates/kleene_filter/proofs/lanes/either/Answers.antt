use Rattle.kleene_filter.proofs.BlockBits.{in_either}
use Rattle.kleene_filter.proofs.lanes.either.Goals as goal

pub returns : goal.returns
returns c = λ row few. in_either row c.args.rows.now c.args.others.now c.told-rows c.told-others few
